use Rattle.mpi_elems.proofs.ElementLemmas.{buffer_is_fit}
use Rattle.mpi_elems.proofs.buffer.Buffer.elem_type.Goals as goal

pub returns-clause-fit : goal.returns-clause-fit
returns-clause-fit c = buffer_is_fit _ _ c.self.view_is c.self.invariant
