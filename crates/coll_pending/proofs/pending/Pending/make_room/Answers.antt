use Rattle.std.proofs.Common.{◌∙◌, sym, ap, subst, is_some}
use Rattle.coll_pending.specs.Queues.{slot_of}
use Rattle.coll_pending.specs.Waiting.{State, PendingView, view_of_pending, IsKnownAs}
use Rattle.coll_pending.proofs.PendingLemmas.{room_made, room_kept}
use Rattle.coll_pending.proofs.pending.Pending.make_room.Goals as goal

pub returns-clause-room : goal.returns-clause-room
unfolding view_of_pending
returns-clause-room g c =
    let before = ap (λ (v : State g.row.X.Denot). view_of_pending v) c.self.view_is in
    let handed =
    subst (λ (v : PendingView g.row.X.Denot). IsKnownAs c.args.of.now (v.known c.args.comm))
    (sym (c.in_ok-reserve.ensures.unchanged ∙ before)) c.requires.known in
    room_made c.ready.result c.reserve.new.self c.ready.new.self c.args.comm c.args.rank
    c.args.of.now
    c.knows-is_known.result c.ready.ensures.slot c.ready.ensures.lists
    c.knows-is_known.ensures c.ready.ensures.queue c.in_ok-reserve.ensures.ok handed

pub returns-clause-memory : goal.returns-clause-memory
returns-clause-memory g c = λ room.
    room_kept c.args.self.now c.self.inside.queues c.self.inside.spare c.args.comm c.args.rank
    c.args.of.now c.knows-is_known.result c.self.view_is room
    (sym (c.waits.ensures ∙ ap (λ n. is_some (slot_of c.self.inside.queues c.args.comm n))
    c.arrivals-number.ensures) ∙ c.if-waits.false)
    c.reserve.new.self c.in_ok-reserve.ensures.unchanged c.knows-is_known.ensures
    c.ready.ensures.memory
