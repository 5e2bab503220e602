use Rattle.std.proofs.Common.{subst}
use Rattle.coll_pending.specs.Instances.{Communicator}
use Rattle.coll_pending.specs.Waiting.{State, view_of_pending, seen, HasArrived}
use Rattle.coll_pending.proofs.PendingLemmas.{arrived_by, met_known, now_awaited, still_awaited}
use Rattle.coll_pending.proofs.PendingLemmas.{inside_as}
use Rattle.coll_pending.proofs.pending.Pending.arrive_ready.Goals as goal

pub open_new-requires-clause-room : goal.open_new-requires-clause-room
open_new-requires-clause-room g c =
    let comm : Communicator = record { members = c.args.group.now; shape = c.args.shape.now } in
    (comm, record { rank = c.requires.rank; room = c.requires.room c.in-Opens.is })

pub arrive-requires : goal.arrive-requires
arrive-requires g c =
    let comm : Communicator = record { members = c.args.group.now; shape = c.args.shape.now } in
    let inside : State g.row.X.Denot =
    record { queues = c.self.inside.queues; spare = c.self.inside.spare } in
    now_awaited c.args.self.now c.open_new.new.self inside c.self.view_is comm c.args.stated.sig
    c.args.meeting c.requires.met
    (c.in-Ok.ensures.met comm
    (record { rank = c.requires.rank; room = c.requires.room c.in-Opens.is })) c.requires.few

pub arrive-requires-in_default : goal.arrive-requires-in_default
arrive-requires-in_default g c =
    let comm : Communicator = record { members = c.args.group.now; shape = c.args.shape.now } in
    let inside : State g.row.X.Denot =
    record { queues = c.self-in_default.inside.queues; spare = c.self-in_default.inside.spare } in
    still_awaited c.args.self.now inside c.self-in_default.view_is c.args.stated.sig
    c.args.meeting c.requires.met c.in_default.not-Opens c.requires.agrees comm
    c.requires.known c.requires.rank c.requires.few

pub returns-in-Ok : goal.returns-in-Ok
unfolding view_of_pending
returns-in-Ok g c =
    let comm : Communicator = record { members = c.args.group.now; shape = c.args.shape.now } in
    let inside : State g.row.X.Denot =
    record { queues = c.self.inside.queues; spare = c.self.inside.spare } in
    let met = c.in-Ok.ensures.met comm
    (record { rank = c.requires.rank; room = c.requires.room c.in-Opens.is }) in
    arrived_by c.args.self.now c.open_new.new.self inside c.self.view_is (seen c.arrive.new.self)
    comm c.args.meeting c.args.stated c.args.part c.arrive.result c.requires.met
    c.requires.agrees met
    (c.arrive.ensures comm
    (met_known c.args.self.now c.open_new.new.self inside c.self.view_is comm c.args.stated.sig
    c.args.meeting c.requires.met met))

pub returns-in_default : goal.returns-in_default
unfolding view_of_pending
returns-in_default g c =
    let comm : Communicator = record { members = c.args.group.now; shape = c.args.shape.now } in
    let inside : State g.row.X.Denot =
    record { queues = c.self-in_default.inside.queues; spare = c.self-in_default.inside.spare } in
    subst (λ (v : State g.row.X.Denot). HasArrived (view_of_pending v)
    (seen c.arrive-in_default.new.self) c.args.meeting.comm c.args.meeting.rank comm
    c.args.stated c.args.part c.arrive-in_default.result) c.self-in_default.view_is
    (c.arrive-in_default.ensures comm
    (inside_as c.args.self.now inside c.self-in_default.view_is c.args.stated.sig
    c.args.meeting c.requires.met c.in_default.not-Opens c.requires.agrees comm
    c.requires.known))
