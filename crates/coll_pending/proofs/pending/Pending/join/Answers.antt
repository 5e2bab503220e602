use Rattle.std.proofs.Common.{subst}
use Rattle.coll_pending.specs.declared.arrival.Arrived.TheVariants.{Waiting}
use Rattle.coll_pending.specs.Waiting.{State, view_of_pending, seen, HasArrived}
use Rattle.coll_pending.proofs.PendingLemmas.{inside_as, joins_stays, joins_agrees, joins_inside}
use Rattle.coll_pending.proofs.PendingLemmas.{joins_awaited}
use Rattle.coll_pending.proofs.pending.Pending.join.Goals as goal

pub join-requires-clause-awaited : goal.join-requires-clause-awaited
join-requires-clause-awaited g c =
    let inside : State g.row.X.Denot =
    record { queues = c.self.inside.queues; spare = c.self.inside.spare } in
    joins_awaited c.args.self.now inside c.self.view_is c.args.stated.sig c.args.meeting
    c.requires.met c.requires.joins c.requires.rank c.requires.few

pub join-requires-clause-joins : goal.join-requires-clause-joins
join-requires-clause-joins g c =
    let inside : State g.row.X.Denot =
    record { queues = c.self.inside.queues; spare = c.self.inside.spare } in
    joins_inside c.args.self.now inside c.self.view_is c.args.stated.sig c.args.meeting
    c.requires.met c.requires.joins

pub returns : goal.returns
unfolding view_of_pending
returns g c = λ of known.
    let inside : State g.row.X.Denot =
    record { queues = c.self.inside.queues; spare = c.self.inside.spare } in
    subst (λ (v : State g.row.X.Denot). HasArrived (view_of_pending v) (seen c.join.new.self)
    c.args.meeting.comm c.args.meeting.rank of c.args.stated c.args.part Waiting) c.self.view_is
    (c.join.ensures of
    (inside_as c.args.self.now inside c.self.view_is c.args.stated.sig c.args.meeting
    c.requires.met
    (joins_stays c.args.self.now inside c.self.view_is c.args.stated.sig c.args.meeting
    c.requires.met c.requires.joins)
    (joins_agrees c.args.self.now inside c.self.view_is c.args.stated.sig c.args.meeting
    c.requires.met c.requires.joins) of known))
