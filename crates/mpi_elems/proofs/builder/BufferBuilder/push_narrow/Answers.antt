use Rattle.mpi_elems.proofs.BuilderLemmas.{room_left}
use Rattle.mpi_elems.proofs.builder.BufferBuilder.push_narrow.Goals as goal

pub push_small-requires-clause-room : goal.push_small-requires-clause-room
push_small-requires-clause-room c = room_left _ _ _ c.self.view_is c.requires
