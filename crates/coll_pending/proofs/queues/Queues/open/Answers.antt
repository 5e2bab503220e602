use Rattle.coll_pending.proofs.OpenLemmas.{opened}
use Rattle.coll_pending.proofs.queues.Queues.open.Goals as goal

pub invariant_of-self : goal.invariant_of-self
invariant_of-self g c =
    (opened _ c.args.self.now c.self.view_is c.self.invariant c.args.comm c.args.fresh
    c.index_mut.result.now c.push_key.new.row c.insert_reserved-key.new.self
    c.insert_reserved-key.result c.args.slot c.index_mut.ensures.value c.requires.place
    c.requires.queue c.requires.vacant c.requires.some
    c.insert_reserved-key.ensures.was_vacant c.insert_reserved-key.ensures.updates
    c.push_key.ensures).0

pub returns : goal.returns
returns g c =
    (opened _ c.args.self.now c.self.view_is c.self.invariant c.args.comm c.args.fresh
    c.index_mut.result.now c.push_key.new.row c.insert_reserved-key.new.self
    c.insert_reserved-key.result c.args.slot c.index_mut.ensures.value c.requires.place
    c.requires.queue c.requires.vacant c.requires.some
    c.insert_reserved-key.ensures.was_vacant c.insert_reserved-key.ensures.updates
    c.push_key.ensures).1
