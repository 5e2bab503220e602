use Rattle.std.proofs.Common.{◌≡◌, false}
use Rattle.std.specs.List.{list_any}
use Rattle.wall_policy.specs.Policy.{home_of}
use Rattle.mpi_cart.specs.Grids.{below}
use Rattle.wall_verdict.specs.Charges.{is_that}
use Rattle.policy_meaning.proofs.due.is_a_home.Given as goal

abbrev pub invariant-loop-number : goal.invariant-loop-number
invariant-loop-number l =
    list_any (λ p. is_that (home_of l.policy p) l.dataset) (below l.number) ≡ false
