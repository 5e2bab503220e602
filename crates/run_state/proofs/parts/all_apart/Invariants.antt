use Rattle.std.proofs.Common.{◌≡◌, map}
use Rattle.mpi_cart.specs.Grids.{below}
use Rattle.run_state.specs.Parts.{apart_of}
use Rattle.run_state.proofs.parts.all_apart.Given as goal

abbrev pub invariant-loop-rank : goal.invariant-loop-rank
invariant-loop-rank l =
    map (λ list. list.items) l.lists.items ≡ map (apart_of l.grid l.gone) (below l.rank)
