use Rattle.mpi_elems.proofs.BuilderLemmas.{room_left}
use Rattle.mpi_elems.proofs.builder.BufferBuilder.push_number.Goals as goal

pub push-requires-clause-room : goal.push-requires-clause-room
push-requires-clause-room c = room_left _ _ _ c.self.view_is c.requires
