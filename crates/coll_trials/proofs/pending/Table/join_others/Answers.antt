use Rattle.std.proofs.Common.{Ok}
use Rattle.coll_pending.specs.declared.arrival.Arrived.TheVariants.{Waiting}
use Rattle.coll_pending.specs.Waiting.{view_of_pending}
use Rattle.coll_pending.proofs.CollPendingLemmas.{stays_known}
use Rattle.coll_trials.proofs.pending.Table.join_others.Goals as goal

pub invariant_of-self : goal.invariant_of-self
invariant_of-self g c =
    stays_known (view_of_pending c.self.inside.pending) (view_of_pending c.join.new.self)
    c.args.meeting.comm c.args.meeting.rank
    (record { members = c.self.inside.group; shape = c.self.inside.shape })
    c.args.stated c.args.part (Ok Waiting)
    (c.join.ensures (record { members = c.self.inside.group; shape = c.self.inside.shape })
    (c.self.invariant c.args.meeting.comm))
    tt c.self.invariant
