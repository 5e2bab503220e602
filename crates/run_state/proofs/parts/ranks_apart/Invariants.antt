use Rattle.std.proofs.Common.{◌≡◌, [], map, slice_get}
use Rattle.std.specs.Prelude.{filter, unwrap_or}
use Rattle.mpi_cart.specs.Grids.{below, same_list}
use Rattle.run_state.proofs.parts.ranks_apart.Given as goal

abbrev pub invariant-loop-rank : goal.invariant-loop-rank
invariant-loop-rank l = l.list.items
    ≡ filter (λ r. same_list (unwrap_or (slice_get (map (λ v. v.items) l.each) r) []) l.value)
    (below l.rank)
