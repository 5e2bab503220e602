use Rattle.mpi_elems.proofs.ElementLemmas.{same_numbers}
use Rattle.mpi_elems.proofs.buffer.Buffer.is_same.Goals as goal

pub returns : goal.returns
returns c = same_numbers _ _ _ _ _ c.self.view_is c.other.view_is c.are_same.ensures
