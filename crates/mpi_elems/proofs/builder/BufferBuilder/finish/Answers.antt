use Rattle.std.proofs.Common.{refl}
use Rattle.mpi_elems.proofs.BuilderLemmas.{draft_fit, finished, unfinished}
use Rattle.mpi_elems.proofs.builder.BufferBuilder.finish.Goals as goal

pub of_cells-requires : goal.of_cells-requires
of_cells-requires c = draft_fit _ _ c.self.invariant

pub returns-in-None-clause-sound : goal.returns-in-None-clause-sound
returns-in-None-clause-sound c = finished _ _ _ c.self.view_is c.self.invariant c.in-None.is

pub returns-in-Some-clause-odd : goal.returns-in-Some-clause-odd
returns-in-Some-clause-odd c =
    (refl, unfinished _ _ _ c.in-Some.field-0 c.self.view_is c.self.invariant c.in-Some.is)
