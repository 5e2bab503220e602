use Rattle.std.proofs.Common.{◌≡◌, ◌∙◌, ap, arith, length, rules}
use Rattle.mpi_elems.specs.Contents.{Contents}
use Rattle.mpi_elems.specs.Shown.{kind_of}
use Rattle.mpi_elems.proofs.FitLemmas.{appended_fit}
use Rattle.mpi_elems.proofs.ElementLemmas.{elements_shown, elements_of-elements_in, cells_are_fit}
use Rattle.mpi_elems.proofs.buffer.Buffer.append_range.Goals as goal

pub append_cells-requires-clause-within : goal.append_cells-requires-clause-within
append_cells-requires-clause-within c =
    let second = ap length (elements_shown _ _ c.other.view_is) in omega arith

pub append_cells-requires-clause-room : goal.append_cells-requires-clause-room
append_cells-requires-clause-room c =
    let first = ap length (elements_shown _ _ c.self.view_is) in
    let room = ap (λ (b : Contents). b.room) c.self.view_is in
    omega arith

pub returns-clause-elements : goal.returns-clause-elements
returns-clause-elements c =
    rw (elements_shown _ _ c.self.view_is, elements_shown _ _ c.other.view_is)
    (elements_of-elements_in c.append_cells.new.to ∙ c.append_cells.ensures.elements)

pub invariant_of-self : goal.invariant_of-self
invariant_of-self c =
    let types : kind_of c.self.inside.cells ≡ kind_of c.other.inside.cells = search rules in
    appended_fit _ _ _ _ _ types c.append_cells.ensures.kind c.append_cells.ensures.elements
    c.self.invariant c.other.invariant

pub returns-clause-fit : goal.returns-clause-fit
returns-clause-fit c = cells_are_fit _ (invariant_of-self c)
