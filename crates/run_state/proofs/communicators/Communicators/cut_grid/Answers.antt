use Rattle.std.proofs.Common.{◌≡◌, ◌∙◌, ap, subst, length, map, true, Some, arith}
use Rattle.mpi_comm.specs.Comms.{subset_groups}
use Rattle.run_model.specs.Comms.{Comm, with_grid, subgrids}
use Rattle.run_state.specs.Making.{is_kept}
use Rattle.run_state.proofs.LaidLemmas.{some_at, laid_sized}
use Rattle.run_state.proofs.MakingLemmas.{also_makes}
use Rattle.run_state.proofs.MakingGridLemmas.{kept_length, kept_some, grid_found, found_sized}
use Rattle.run_state.proofs.MakingGridLemmas.{cut_sizes, cut_subgroups, cut_comms}
use Rattle.run_state.proofs.communicators.Communicators.cut_grid.Goals as goal

pub unreachable-requires : goal.unreachable-requires
unreachable-requires c =
    let there = some_at c.args.self.now c.args.comm c.requires.there in
    kept_some c.args.keep.now there.0.grid
    (grid_found c.shape.result.now there.0 _ (c.shape.ensures there.0 there.1) c.in_default.is)
    (c.requires.keep there.0 there.1)

pub part_of-requires : goal.part_of-requires
part_of-requires c =
    let there = some_at c.args.self.now c.args.comm c.requires.there in
    let grid = grid_found c.shape.result.now there.0 (Some c.in-Some.grid)
    (c.shape.ensures there.0 there.1) c.in-Some.is in
    kept_length c.args.keep.now c.in-Some.grid
    (subst (λ o. is_kept c.args.keep.now o ≡ true) grid (c.requires.keep there.0 there.1))

pub grid_parts-requires : goal.grid_parts-requires
grid_parts-requires c =
    let there = some_at c.args.self.now c.args.comm c.requires.there in
    let grid = grid_found c.shape.result.now there.0 (Some c.in-Some.grid)
    (c.shape.ensures there.0 there.1) c.in-Some.is in
    kept_length c.args.keep.now c.in-Some.grid
    (subst (λ o. is_kept c.args.keep.now o ≡ true) grid (c.requires.keep there.0 there.1))

pub add_parts-requires-clause-sizes : goal.add_parts-requires-clause-sizes
add_parts-requires-clause-sizes c =
    let there = some_at c.args.self.now c.args.comm c.requires.there in
    let grid = grid_found c.shape.result.now there.0 (Some c.in-Some.grid)
    (c.shape.ensures there.0 there.1) c.in-Some.is in
    let long = kept_length c.args.keep.now c.in-Some.grid
    (subst (λ o. is_kept c.args.keep.now o ≡ true) grid (c.requires.keep there.0 there.1)) in
    let lists = ap (λ ls. map (λ list. list.items) ls) c.deref.ensures.value ∙ c.in_ok-lists.ensures
    in
    cut_sizes c.deref.result.now (λ list. list.items) c.in-Some.grid c.args.keep.now lists
    c.in_ok-part.part c.in_ok-part.ensures long

pub add_parts-requires-clause-ranks : goal.add_parts-requires-clause-ranks
add_parts-requires-clause-ranks c = λ found at.
    let grid = grid_found c.shape.result.now found (Some c.in-Some.grid) (c.shape.ensures found at)
    c.in-Some.is in
    let size = found_sized found c.in-Some.grid
    (laid_sized c.self.inside.table c.self.inside.shapes.items c.args.self.now c.self.view_is
    c.self.invariant c.args.comm found at) grid in
    let lists = ap (λ ls. map (λ list. list.items) ls) c.deref.ensures.value ∙ c.in_ok-lists.ensures
    in
    cut_subgroups c.deref.result.now (λ list. list.items) c.in-Some.grid c.args.keep.now lists
    (length found.members) (omega (arith, size))

pub returns-clause-made : goal.returns-clause-made
returns-clause-made c =
    let lists = ap (λ ls. map (λ list. list.items) ls) c.deref.ensures.value ∙ c.in_ok-lists.ensures
    in
    also_makes c.add_parts.result
    (λ (f : Comm). with_grid (Some c.in_ok-part.part)
    (subset_groups (map (λ list. list.items) c.deref.result.now) f.members))
    (λ (f : Comm). subgrids f.grid c.args.keep.now f.members) c.args.self.now
    c.add_parts.new.self c.args.comm
    (λ found at. cut_comms c.deref.result.now (λ list. list.items) c.in-Some.grid c.args.keep.now
    lists c.in_ok-part.part c.in_ok-part.ensures found
    (grid_found c.shape.result.now found (Some c.in-Some.grid) (c.shape.ensures found at)
    c.in-Some.is))
    c.add_parts.ensures.made
