use Rattle.std.proofs.Common.{◌≡◌, false}
use Rattle.std.specs.List.{list_any}
use Rattle.mpi_cart.specs.Grids.{below}
use Rattle.policy_meaning.specs.Warnings.{is_home_of}
use Rattle.policy_meaning.proofs.number.has_home.Given as goal

abbrev pub invariant-loop-number : goal.invariant-loop-number
invariant-loop-number l = list_any (is_home_of l.policy l.class) (below l.number) ≡ false
