use Rattle.std.proofs.Common.{◌<◌, ◌^◌, sym, subst}
use Rattle.coll_pending.specs.declared.arrival.Meeting.{Meeting}
use Rattle.coll_pending.specs.Instances.{Communicator}
use Rattle.coll_pending.specs.Waiting.{State, view_of_pending, seen, HasArrived}
use Rattle.coll_pending.proofs.PendingLemmas.{arrived_by, met_known, now_awaited, is_meeting}
use Rattle.coll_pending.proofs.pending.Pending.arrive.Goals as goal

pub arrive-requires : goal.arrive-requires
arrive-requires g c =
    let inside : State g.row.X.Denot =
    record { queues = c.self.inside.queues; spare = c.self.inside.spare } in
    now_awaited c.args.self.now c.meet.new.self inside c.self.view_is c.new.result c.args.stated.sig
    c.look-meeting.result
    (is_meeting (view_of_pending c.args.self.now) c.args.comm c.args.rank c.args.stated.sig
    c.look-meeting.result c.look-meeting.ensures) c.in-Ok.ensures.met
    (subst (λ (m : Meeting). m.k < 2 ^ 62) (sym c.look-meeting.ensures) c.requires.few)

pub returns-in-Ok-clause-arrived : goal.returns-in-Ok-clause-arrived
unfolding view_of_pending
returns-in-Ok-clause-arrived g c =
    let inside : State g.row.X.Denot =
    record { queues = c.self.inside.queues; spare = c.self.inside.spare } in
    let told = is_meeting (view_of_pending c.args.self.now) c.args.comm c.args.rank
    c.args.stated.sig c.look-meeting.result c.look-meeting.ensures in
    subst (λ (of : Communicator). HasArrived (view_of_pending c.args.self.now)
    (seen c.arrive.new.self) c.args.comm c.args.rank of c.args.stated c.args.part c.arrive.result)
    c.new.ensures
    (subst (λ (m : Meeting). HasArrived (view_of_pending c.args.self.now)
    (seen c.arrive.new.self) m.comm m.rank c.new.result c.args.stated c.args.part
    c.arrive.result) c.look-meeting.ensures
    (arrived_by c.args.self.now c.meet.new.self inside c.self.view_is (seen c.arrive.new.self)
    c.new.result c.look-meeting.result c.args.stated c.args.part c.arrive.result told
    c.in-Ok.ensures.agrees c.in-Ok.ensures.met
    (c.arrive.ensures c.new.result
    (met_known c.args.self.now c.meet.new.self inside c.self.view_is c.new.result
    c.args.stated.sig c.look-meeting.result told c.in-Ok.ensures.met))))
