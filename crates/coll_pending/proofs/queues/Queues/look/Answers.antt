use Rattle.std.proofs.Common.{sym, ap, ◌∙◌, subst}
use Rattle.std.specs.Prelude.{IfSome}
use Rattle.coll_pending.specs.Queues.{Queues, slot_of, slot_in, queue_at, count_in, key_in, key_at}
use Rattle.coll_pending.specs.Queues.{CanTell}
use Rattle.coll_pending.proofs.ArriveLemmas.{can_tell}
use Rattle.coll_pending.proofs.queues.Queues.look.Goals as goal

pub next_of-requires : goal.next_of-requires
next_of-requires g c =
    let told = can_tell _ c.args.comm c.args.rank c.self.invariant in
    let now =
    subst (λ (s : Queues g.row.X.Denot). IfSome
    (slot_of s c.args.comm (count_in (queue_at s.queues c.args.comm) c.args.rank))
    (CanTell c.args.rank)) c.self.view_is told in
    let here = subst (λ w. IfSome
    (slot_in c.args.self.now.slots (key_in w (count_in w c.args.rank))) (CanTell c.args.rank))
    (sym c.in-Some.ensures) now in
    subst (λ w. IfSome w (CanTell c.args.rank))
    (sym (c.slot_at.ensures
    ∙ (ap (λ w. slot_in c.self.inside.slots w)
    (c.key.ensures ∙ ap (λ n. key_at c.in-Some.queue.now n) c.count-k.ensures)
    ∙ ap (λ (s : Queues g.row.X.Denot). slot_in s.slots
    (key_in (Rattle.std.proofs.Common.Some c.in-Some.queue.now)
    (count_in (Rattle.std.proofs.Common.Some c.in-Some.queue.now) c.args.rank)))
    c.self.view_is))) here
