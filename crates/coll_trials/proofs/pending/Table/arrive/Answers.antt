use Rattle.coll_pending.specs.Waiting.{view_of_pending}
use Rattle.coll_pending.proofs.CollPendingLemmas.{stays_known}
use Rattle.coll_trials.proofs.pending.Table.arrive.Goals as goal

pub invariant_of-self : goal.invariant_of-self
invariant_of-self g c =
    stays_known (view_of_pending c.self.inside.pending) (view_of_pending c.arrive-answer.new.self)
    c.args.place.0
    c.args.place.1 (record { members = c.self.inside.group; shape = c.self.inside.shape }) _
    c.args.part c.arrive-answer.result c.arrive-answer.ensures.arrived
    c.arrive-answer.ensures.unchanged c.self.invariant
