use Rattle.std.proofs.Common.{◌≡◌, ◌≤◌}
use Rattle.std.specs.Prelude.{count_by}
use Rattle.wall_policy.specs.Policy.{home_of}
use Rattle.mpi_cart.specs.Grids.{below}
use Rattle.wall_verdict.specs.Charges.{is_that}
use Rattle.policy_meaning.proofs.crowd.at_home.Given as goal

abbrev pub invariant-loop-number : goal.invariant-loop-number
invariant-loop-number l = record {
  counted : l.count ≡ count_by (λ p. is_that (home_of l.policy p) l.dataset) (below l.number);
  few : l.count ≤ l.number;
}
