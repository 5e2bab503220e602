use Rattle.std.proofs.Common.{◌≡◌, ◌∙◌, ap, sym, rules, length, arith}
use Rattle.mpi_elems.specs.Contents.{Contents}
use Rattle.mpi_elems.specs.Shown.{kind_of, elements_in}
use Rattle.mpi_elems.proofs.FitLemmas.{merged_cells_fit}
use Rattle.mpi_elems.proofs.LoopLemmas.{merged-same_length, slice_range-all}
use Rattle.mpi_elems.proofs.ElementLemmas.{elements_shown, elements_of-elements_in, cells_are_fit}
use Rattle.mpi_elems.proofs.buffer.combine_into.Goals as goal

pub merge_cells-requires-clause-within : goal.merge_cells-requires-clause-within
merge_cells-requires-clause-within c = omega arith

pub merge_cells-requires-clause-room : goal.merge_cells-requires-clause-room
merge_cells-requires-clause-room c =
    let first = ap length (elements_shown _ _ c.first.view_is) in
    let second = ap length (elements_shown _ _ c.second.view_is) in
    λ short. absurd (omega arith)

pub returns-clause-elements : goal.returns-clause-elements
returns-clause-elements c =
    let ty = ap (λ (b : Contents). b.elem_type) c.first.view_is in
    let first = elements_shown _ _ c.first.view_is in
    let second = elements_shown _ _ c.second.view_is in
    let count : length (elements_in c.first.inside.cells) ≡ length
    (elements_in c.second.inside.cells) = sym (ap length first) ∙ c.requires.one_count ∙ ap
    length second in
    let made = c.merge_cells.ensures.elements in
    let all = slice_range-all (elements_in c.second.inside.cells) _ c.count.ensures in
    let whole = rw all at made in
    rw (first, second, ← ty)
    (elements_of-elements_in c.merge_cells.new.to ∙ whole ∙ merged-same_length _ _ _ count)

pub invariant_of-first : goal.invariant_of-first
invariant_of-first c =
    let types : kind_of c.first.inside.cells ≡ kind_of c.second.inside.cells = search rules in
    merged_cells_fit c.args.op _ _ _ _ _ types c.merge_cells.ensures.kind
    c.merge_cells.ensures.elements c.first.invariant c.second.invariant

pub returns-clause-fit : goal.returns-clause-fit
returns-clause-fit c = cells_are_fit _ (invariant_of-first c)

pub returns-clause-room : goal.returns-clause-room
returns-clause-room c =
    let first = ap length (elements_shown _ _ c.first.view_is) in
    let second = ap length (elements_shown _ _ c.second.view_is) in
    let room = ap (λ (b : Contents). b.room) c.first.view_is in
    let same = c.requires.one_count in
    let all = c.count.ensures in
    let kept = c.merge_cells.ensures.room.1 (omega arith) in
    omega arith
