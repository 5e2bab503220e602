use Rattle.coll_pending.specs.declared.arrival.Arrived.TheVariants.{Waiting}
use Rattle.coll_pending.proofs.ArriveLemmas.{arrived_at, can_post_at, joined_at}
use Rattle.coll_pending.proofs.queues.Queues.join.Goals as goal

pub enter-requires : goal.enter-requires
enter-requires g c =
    can_post_at _ c.args.self.now c.self.view_is c.self.invariant c.args.meeting
    c.args.stated c.args.part c.index_mut.result.now c.index_mut.ensures.value c.requires.awaited

pub invariant_of-self : goal.invariant_of-self
invariant_of-self g c =
    (arrived_at _ c.args.self.now c.self.view_is c.self.invariant c.args.meeting
    c.args.stated c.args.part c.index_mut.result.now c.enter.new.row c.enter.new.slots Waiting
    c.index_mut.ensures.value c.requires.awaited
    (joined_at _ c.args.self.now c.self.view_is c.self.invariant c.args.meeting
    c.args.stated c.args.part c.index_mut.result.now c.enter.new.row c.enter.new.slots
    c.enter.result c.index_mut.ensures.value c.requires.awaited
    c.requires.joins c.enter.ensures)).0

pub returns : goal.returns
returns g c =
    (arrived_at _ c.args.self.now c.self.view_is c.self.invariant c.args.meeting
    c.args.stated c.args.part c.index_mut.result.now c.enter.new.row c.enter.new.slots Waiting
    c.index_mut.ensures.value c.requires.awaited
    (joined_at _ c.args.self.now c.self.view_is c.self.invariant c.args.meeting
    c.args.stated c.args.part c.index_mut.result.now c.enter.new.row c.enter.new.slots
    c.enter.result c.index_mut.ensures.value c.requires.awaited
    c.requires.joins c.enter.ensures)).1
