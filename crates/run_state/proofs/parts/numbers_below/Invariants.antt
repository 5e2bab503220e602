use Rattle.std.proofs.Common.{◌≡◌}
use Rattle.mpi_cart.specs.Grids.{below}
use Rattle.run_state.proofs.parts.numbers_below.Given as goal

abbrev pub invariant-loop-k : goal.invariant-loop-k
invariant-loop-k l = l.list.items ≡ below l.k
