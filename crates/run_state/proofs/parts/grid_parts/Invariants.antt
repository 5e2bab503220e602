use Rattle.std.proofs.Common.{◌≡◌, map, not}
use Rattle.mpi_cart.specs.Grids.{below, coords, kept}
use Rattle.run_model.specs.Comms.{ranks_apart}
use Rattle.run_state.proofs.parts.grid_parts.Given as goal

abbrev pub invariant-loop-rank : goal.invariant-loop-rank
invariant-loop-rank l = map (λ list. list.items) l.lists.items
    ≡ map (λ r. ranks_apart l.grid l.keep (coords (kept (map not l.keep) l.grid) r)) (below l.rank)
