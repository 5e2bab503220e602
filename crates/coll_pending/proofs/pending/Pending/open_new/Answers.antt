use Rattle.std.proofs.Common.{◌∙◌, ◌<◌, sym, ap, subst, length}
use Rattle.coll_pending.specs.Instances.{Communicator}
use Rattle.coll_pending.specs.Waiting.{State, view_of_pending}
use Rattle.coll_pending.proofs.PendingLemmas.{free_inside, can_open, new_opened, new_meets}
use Rattle.coll_pending.proofs.PendingLemmas.{slot_for_some, opening, opens_as, lists_fit}
use Rattle.coll_pending.proofs.pending.Pending.open_new.Goals as goal

pub take_slot-requires : goal.take_slot-requires
take_slot-requires g c =
    let of = c.requires.room.0 in
    let inside : State g.row.X.Denot =
    record { queues = c.self.inside.queues; spare = c.self.inside.spare } in
    let can = can_open c.args.self.now inside c.self.view_is of c.args.sig.now c.args.meeting
    c.requires.met c.requires.opens c.requires.room.1.room in
    slot_for_some of c.self.inside.spare.slot can.slot

pub returns-in_err-slot-clause-memory : goal.returns-in_err-slot-clause-memory
unfolding view_of_pending
returns-in_err-slot-clause-memory g c = λ of room fit.
    let inside : State g.row.X.Denot =
    record { queues = c.self.inside.queues; spare = c.self.inside.spare } in
    let can = can_open c.args.self.now inside c.self.view_is of c.args.sig.now c.args.meeting
    c.requires.met c.requires.opens room.room in
    absurd (c.in_err-slot.ensures.memory
    (lists_fit of.shape c.self.inside.spare.lists c.args.sig.now can.lists fit))

pub open-requires-clause-place : goal.open-requires-clause-place
open-requires-clause-place g c =
    let of = c.requires.room.0 in
    let inside : State g.row.X.Denot =
    record { queues = c.self.inside.queues; spare = c.self.inside.spare } in
    let can = can_open c.args.self.now inside c.self.view_is of c.args.sig.now c.args.meeting
    c.requires.met c.requires.opens c.requires.room.1.room in
    can.place

pub open-requires-clause-vacant : goal.open-requires-clause-vacant
open-requires-clause-vacant g c =
    let of = c.requires.room.0 in
    let inside : State g.row.X.Denot =
    record { queues = c.self.inside.queues; spare = c.self.inside.spare } in
    let can = can_open c.args.self.now inside c.self.view_is of c.args.sig.now c.args.meeting
    c.requires.met c.requires.opens c.requires.room.1.room in
    let it =
    opening c.self.inside.queues c.self.inside.spare c.args.meeting.comm c.args.meeting.rank of
    c.in_ok-slot.slot c.take_queue-fresh.result c.knows-is_known.result c.requires.room.1.rank can
    (c.in_ok-slot.ensures.slot of can.slot) c.knows-is_known.ensures
    (λ e. c.take_queue-fresh.ensures e ∙ c.in_ok-slot.ensures.queue) in
    it.vacant

pub open-requires-clause-some : goal.open-requires-clause-some
open-requires-clause-some g c =
    let of = c.requires.room.0 in
    let inside : State g.row.X.Denot =
    record { queues = c.self.inside.queues; spare = c.self.inside.spare } in
    let can = can_open c.args.self.now inside c.self.view_is of c.args.sig.now c.args.meeting
    c.requires.met c.requires.opens c.requires.room.1.room in
    let it =
    opening c.self.inside.queues c.self.inside.spare c.args.meeting.comm c.args.meeting.rank of
    c.in_ok-slot.slot c.take_queue-fresh.result c.knows-is_known.result c.requires.room.1.rank can
    (c.in_ok-slot.ensures.slot of can.slot) c.knows-is_known.ensures
    (λ e. c.take_queue-fresh.ensures e ∙ c.in_ok-slot.ensures.queue) in
    it.some

pub open-requires-clause-queue : goal.open-requires-clause-queue
open-requires-clause-queue g c =
    let of = c.requires.room.0 in
    let inside : State g.row.X.Denot =
    record { queues = c.self.inside.queues; spare = c.self.inside.spare } in
    let can = can_open c.args.self.now inside c.self.view_is of c.args.sig.now c.args.meeting
    c.requires.met c.requires.opens c.requires.room.1.room in
    let it =
    opening c.self.inside.queues c.self.inside.spare c.args.meeting.comm c.args.meeting.rank of
    c.in_ok-slot.slot c.take_queue-fresh.result c.knows-is_known.result c.requires.room.1.rank can
    (c.in_ok-slot.ensures.slot of can.slot) c.knows-is_known.ensures
    (λ e. c.take_queue-fresh.ensures e ∙ c.in_ok-slot.ensures.queue) in
    it.queue

pub returns-clause-met : goal.returns-clause-met
unfolding view_of_pending
returns-clause-met g c = λ of room.
    let inside : State g.row.X.Denot =
    record { queues = c.self.inside.queues; spare = c.self.inside.spare } in
    let can = can_open c.args.self.now inside c.self.view_is of c.args.sig.now c.args.meeting
    c.requires.met c.requires.opens room.room in
    let it =
    opening c.self.inside.queues c.self.inside.spare c.args.meeting.comm c.args.meeting.rank of
    c.in_ok-slot.slot c.take_queue-fresh.result c.knows-is_known.result room.rank can
    (c.in_ok-slot.ensures.slot of can.slot) c.knows-is_known.ensures
    (λ e. c.take_queue-fresh.ensures e ∙ c.in_ok-slot.ensures.queue) in
    let same = ap (λ (v : State g.row.X.Denot). view_of_pending v) c.self.view_is in
    let free = free_inside c.args.self.now inside c.self.view_is of c.args.sig.now c.args.meeting
    c.requires.met c.requires.opens in
    let lt = subst (λ (m : Communicator). c.args.meeting.rank < length m.members) (sym it.of)
    room.rank in
    let opens =
    opens_as c.self.inside.queues c.open.new.self c.args.meeting.comm _ c.in_ok-slot.slot of
    c.args.sig.now it.of c.in_ok-slot.ensures.sig
    (c.open.ensures c.args.meeting.rank lt free) in
    record {
      opened = new_opened c.self.inside.queues c.open.new.self (view_of_pending c.args.self.now)
          c.args.meeting.comm c.args.meeting.rank of c.args.sig.now same free opens;
      meets = new_meets c.self.inside.queues c.open.new.self (view_of_pending c.args.self.now)
          c.args.meeting.comm c.args.meeting.rank of c.args.sig.now same free opens room.rank;
    }
