use Rattle.hall_core.proofs.SlotLemmas.{absent}
use Rattle.hall_core.proofs.slots.place_of.Goals as goal

pub returns-else-is_at-2-clause-none : goal.returns-else-is_at-2-clause-none
returns-else-is_at-2-clause-none g c =
    absent c.args.number c.args.slots.now c.place_for-at.result c.requires
    c.place_for-at.ensures.within c.place_for-at.ensures.between
    (c.is_at-2.ensures.no c.if-is_at-2.false)
