use Rattle.std.proofs.Common.{refl}
use Rattle.mpi_elems.specs.Elements.{numbers_of}
use Rattle.mpi_elems.proofs.builder.BufferBuilder.with_room.Goals as goal

pub invariant_of-result : goal.invariant_of-result
unfolding numbers_of
invariant_of-result c = record { of_type = rw c.in-Ok.ensures.none refl; no_half = λ single. refl }

pub returns-in-Ok-clause-made : goal.returns-in-Ok-clause-made
unfolding numbers_of
returns-in-Ok-clause-made c = rw (c.in-Ok.ensures.kind, c.in-Ok.ensures.none, c.in-Ok.ensures.room)
