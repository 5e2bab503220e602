use Rattle.std.proofs.Common.{ap, ◌∙◌, ◌+◌, sym, eqb, subst, ◌<◌, ◌≤◌}
use Rattle.coll_pending.proofs.KeyLemmas.{not_less}
use Rattle.coll_pending.proofs.SlotLemmas.{lacks_told, past_told}
use Rattle.coll_pending.proofs.slot.Slot.lacks_only.Goals as goal

pub returns-then-rank-size : goal.returns-then-rank-size
returns-then-rank-size g c =
    let lt = subst (λ n. c.args.rank < n) c.size-size.ensures.value c.if-rank-size.true in
    ap (λ n. eqb (c.args.self.now.arrived + 1) n) c.size-size.ensures.value
    ∙ sym (lacks_told c.args.self.now c.args.rank c.requires.slot lt (c.requires.free lt))

pub returns-else-rank-size : goal.returns-else-rank-size
returns-else-rank-size g c =
    let le = subst (λ n. n ≤ c.args.rank) c.size-size.ensures.value c.if-rank-size.false in
    not_less c.args.rank c.size-size.result c.if-rank-size.false
    ∙ sym (past_told c.args.self.now c.args.rank c.requires.slot le)
