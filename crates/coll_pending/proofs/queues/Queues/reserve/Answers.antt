use Rattle.std.proofs.Common.{ap}
use Rattle.slab.specs.Slab.{Slab, get}
use Rattle.coll_pending.specs.declared.slot.Slot.{Slot}
use Rattle.coll_pending.proofs.ChangeLemmas.{roomier_sound}
use Rattle.coll_pending.proofs.queues.Queues.reserve.Goals as goal

pub invariant_of-self-2 : goal.invariant_of-self-2
invariant_of-self-2 g c =
    roomier_sound _ c.reserve_row.new.by_comm.items c.reserve.new.self c.self.invariant
    c.reserve_row.ensures.same
    (λ key. ap (λ (s : Slab (Slot g.row.X.Denot)). get s key) c.in_ok-reserve.ensures.rest_kept)
