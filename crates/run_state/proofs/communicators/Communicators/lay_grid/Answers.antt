use Rattle.std.proofs.Common.{◌∙◌, ◌∷◌, [], ap, length, map, Some, arith}
use Rattle.mpi_cart.specs.Grids.{Topology, below, volume}
use Rattle.mpi_cart.specs.Faults.{first_fault}
use Rattle.mpi_comm.specs.Comms.{subset_groups}
use Rattle.run_model.specs.Comms.{Comm, with_grid}
use Rattle.run_state.proofs.LaidLemmas.{some_at}
use Rattle.run_state.proofs.MakingLemmas.{also_makes}
use Rattle.run_state.proofs.MakingGridLemmas.{grid_fits, one_size, one_subgroup}
use Rattle.run_state.proofs.communicators.Communicators.lay_grid.Goals as goal

pub laid_grid-requires : goal.laid_grid-requires
laid_grid-requires c =
    let there = some_at c.args.self.now c.args.comm c.requires.there in
    ap (λ n. first_fault c.args.dims.now c.args.periods.now n)
    (c.size-size.ensures.value ∙ ap length (c.group.ensures.members there.0 there.1))
    ∙ c.requires.dims there.0 there.1

pub add_parts-requires-clause-sizes : goal.add_parts-requires-clause-sizes
add_parts-requires-clause-sizes c =
    let lists = ap (λ ls. map (λ list. list.items) ls) c.deref.ensures.value ∙
    c.in_ok-lists.ensures.lists in
    one_size c.deref.result.now (λ list. list.items) c.size.result lists
    (volume c.in_ok-grid.grid.dims) c.size.ensures.value

pub add_parts-requires-clause-ranks : goal.add_parts-requires-clause-ranks
add_parts-requires-clause-ranks c = λ found at.
    let lists = ap (λ ls. map (λ list. list.items) ls) c.deref.ensures.value ∙
    c.in_ok-lists.ensures.lists in
    let fit = grid_fits c.args.dims.now c.args.periods.now (length found.members)
    (c.requires.dims found at) in
    let size = c.size.ensures.value ∙ ap (λ (g : Topology). volume g.dims) c.in_ok-grid.ensures in
    one_subgroup c.deref.result.now (λ list. list.items) c.size.result lists (length found.members)
    (omega arith)

pub returns-clause-made : goal.returns-clause-made
returns-clause-made c =
    let grid : Topology = record { dims = c.args.dims.now; periods = c.args.periods.now } in
    let size = c.size.ensures.value ∙ ap (λ (g : Topology). volume g.dims) c.in_ok-grid.ensures in
    let lists = ap (λ ls. map (λ list. list.items) ls) c.deref.ensures.value ∙
    (c.in_ok-lists.ensures.lists ∙ ap (λ n. below n ∷ []) size) in
    also_makes c.add_parts.result
    (λ (f : Comm). with_grid (Some c.in_ok-grid.grid)
    (subset_groups (map (λ list. list.items) c.deref.result.now) f.members))
    (λ (f : Comm).
    with_grid (Some grid) (subset_groups (below (volume c.args.dims.now) ∷ []) f.members))
    c.args.self.now c.add_parts.new.self c.args.comm
    (λ found at i.
    with_grid (Some (c.in_ok-grid.ensures i)) (subset_groups (lists i) found.members))
    c.add_parts.ensures.made
