use Rattle.coll_pending.proofs.ArriveLemmas.{arrived_at, can_post_at}
use Rattle.coll_pending.proofs.queues.Queues.arrive.Goals as goal

pub post-requires : goal.post-requires
post-requires g c =
    can_post_at _ c.args.self.now c.self.view_is c.self.invariant c.args.meeting
    c.args.stated c.args.part c.index_mut.result.now c.index_mut.ensures.value c.requires

pub invariant_of-self : goal.invariant_of-self
invariant_of-self g c =
    (arrived_at _ c.args.self.now c.self.view_is c.self.invariant c.args.meeting
    c.args.stated c.args.part c.index_mut.result.now c.post.new.row c.post.new.slots c.post.result
    c.index_mut.ensures.value c.requires c.post.ensures).0

pub returns : goal.returns
returns g c =
    (arrived_at _ c.args.self.now c.self.view_is c.self.invariant c.args.meeting
    c.args.stated c.args.part c.index_mut.result.now c.post.new.row c.post.new.slots c.post.result
    c.index_mut.ensures.value c.requires c.post.ensures).1
