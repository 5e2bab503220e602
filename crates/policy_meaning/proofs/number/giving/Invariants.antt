use Rattle.std.proofs.Common.{◌≡◌, ◌≤◌}
use Rattle.std.specs.Prelude.{count_by}
use Rattle.mpi_cart.specs.Grids.{below}
use Rattle.policy_meaning.specs.Warnings.{has_home}
use Rattle.policy_meaning.proofs.number.giving.Given as goal

abbrev pub invariant-loop-number : goal.invariant-loop-number
invariant-loop-number l = record {
  counted : l.count ≡ count_by (has_home l.policy) (below l.number);
  few : l.count ≤ l.number;
}
