use Rattle.std.proofs.Common.{◌∙◌}
use Rattle.mpi_elems.specs.Elements.{numbers_of}
use Rattle.mpi_elems.proofs.ElementLemmas.{elements_of-elements_in}
use Rattle.mpi_elems.proofs.buffer.Buffer.with_room.Goals as goal

pub returns-in-Ok-clause-made : goal.returns-in-Ok-clause-made
unfolding numbers_of
returns-in-Ok-clause-made c = rw (c.in-Ok.ensures.kind, c.in-Ok.ensures.none, c.in-Ok.ensures.room)

pub returns-in-Ok-clause-none : goal.returns-in-Ok-clause-none
returns-in-Ok-clause-none c = elements_of-elements_in c.in-Ok.cells ∙ c.in-Ok.ensures.none
