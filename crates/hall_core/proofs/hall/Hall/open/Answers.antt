use Rattle.hall_core.specs.Invariant.{value_in}
use Rattle.hall_core.proofs.ApplyLemmas.{stands_exactly}
use Rattle.hall_core.proofs.hall.Hall.open.Goals as goal

pub returns-in-Ok-clause-stands : goal.returns-in-Ok-clause-stands
returns-in-Ok-clause-stands c = stands_exactly (value_in c.in-Ok.records) _ c.in-Ok.ensures.stands
