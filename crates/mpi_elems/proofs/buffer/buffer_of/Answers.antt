use Rattle.mpi_elems.proofs.ElementLemmas.{numbers_of-elements_of, elements_of_fit}
use Rattle.mpi_elems.proofs.buffer.buffer_of.Goals as goal

pub invariant_of-result : goal.invariant_of-result
invariant_of-result c = rw (c.in_ok-cells.ensures.kind, c.in_ok-cells.ensures.elements)
    (elements_of_fit c.args.ty c.args.numbers.now c.requires.even c.requires.fit)

pub returns-clause-made : goal.returns-clause-made
returns-clause-made c = rw (
  c.in_ok-cells.ensures.kind,
  c.in_ok-cells.ensures.elements,
  c.in_ok-cells.ensures.room,
  numbers_of-elements_of c.args.ty c.args.numbers.now c.requires.even,
)
