use Rattle.std.proofs.Common.{◌≡◌, ◌≤◌}
use Rattle.std.specs.Prelude.{count_by, is_none}
use Rattle.wall_policy.specs.Policy.{home_of}
use Rattle.mpi_cart.specs.Grids.{below}
use Rattle.policy_meaning.proofs.due.homeless.Given as goal

abbrev pub invariant-loop-number : goal.invariant-loop-number
invariant-loop-number l = record {
  counted : l.count ≡ count_by (λ p. is_none (home_of l.policy p)) (below l.number);
  few : l.count ≤ l.number;
}
