use Rattle.std.proofs.Common.{◌≡◌, ◌∙◌, ap, arith, length, rules}
use Rattle.mpi_elems.specs.Contents.{Contents}
use Rattle.mpi_elems.specs.Shown.{kind_of}
use Rattle.mpi_elems.proofs.FitLemmas.{merged_cells_fit}
use Rattle.mpi_elems.proofs.ElementLemmas.{elements_shown, elements_of-elements_in, cells_are_fit}
use Rattle.mpi_elems.proofs.buffer.Buffer.merge_range.Goals as goal

pub merge_cells-requires-clause-within : goal.merge_cells-requires-clause-within
merge_cells-requires-clause-within c =
    let second = ap length (elements_shown _ _ c.other.view_is) in omega arith

pub merge_cells-requires-clause-room : goal.merge_cells-requires-clause-room
merge_cells-requires-clause-room c =
    let first = ap length (elements_shown _ _ c.self.view_is) in
    let room = ap (λ (b : Contents). b.room) c.self.view_is in
    λ short. omega arith

pub returns-clause-elements : goal.returns-clause-elements
returns-clause-elements c =
    let ty = ap (λ (b : Contents). b.elem_type) c.self.view_is in
    rw (elements_shown _ _ c.self.view_is, elements_shown _ _ c.other.view_is, ← ty)
    (elements_of-elements_in c.merge_cells.new.to ∙ c.merge_cells.ensures.elements)

pub invariant_of-self : goal.invariant_of-self
invariant_of-self c =
    let types : kind_of c.self.inside.cells ≡ kind_of c.other.inside.cells = search rules in
    merged_cells_fit c.args.op _ _ _ _ _ types c.merge_cells.ensures.kind
    c.merge_cells.ensures.elements c.self.invariant c.other.invariant

pub returns-clause-fit : goal.returns-clause-fit
returns-clause-fit c = cells_are_fit _ (invariant_of-self c)

pub returns-clause-kept : goal.returns-clause-kept
returns-clause-kept c = λ short.
    let first = ap length (elements_shown _ _ c.self.view_is) in
    let room = ap (λ (b : Contents). b.room) c.self.view_is in
    let kept = c.merge_cells.ensures.room.1 (omega arith) in
    omega arith
