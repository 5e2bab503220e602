use Rattle.std.proofs.Common.{◌∙◌}
use Rattle.mpi_elems.specs.Elements.{numbers_of}
use Rattle.mpi_elems.proofs.ElementLemmas.{elements_of-elements_in}
use Rattle.mpi_elems.proofs.buffer.Buffer.empty.Goals as goal

pub returns-clause-made : goal.returns-clause-made
unfolding numbers_of
returns-clause-made c =
    rw (c.no_cells.ensures.kind, c.no_cells.ensures.none, c.no_cells.ensures.room)

pub returns-clause-none : goal.returns-clause-none
returns-clause-none c = elements_of-elements_in c.no_cells.result ∙ c.no_cells.ensures.none
