use Rattle.std.proofs.Common.{◌≡◌, take}
use Rattle.mpi_cart.specs.Grids.{coords}
use Rattle.run_state.proofs.parts.coordinates.Given as goal

abbrev pub invariant-loop-dim : goal.invariant-loop-dim
invariant-loop-dim l = l.list.items ≡ take l.dim (coords l.grid l.rank)
