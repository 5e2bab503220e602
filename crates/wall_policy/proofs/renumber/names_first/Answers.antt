use Rattle.std.proofs.Common.{List, ◌+◌, drop, sym, ap, ◌∙◌, subst}
use Rattle.wall_policy.specs.Names.{Name}
use Rattle.wall_policy.proofs.AnewLemmas.{IsAdded, with_new, drop_at, added_on}
use Rattle.wall_policy.proofs.renumber.names_first.Goals as goal

pub loop-number-preserved : goal.loop-number-preserved
loop-number-preserved c =
    let others = c.args.others.now in
    let to_come = drop (c.loop-number.number + 1) others in
    let so_far = subst (λ rest. IsAdded c.args.first.now others c.loop-number.table rest)
    (drop_at others c.loop-number.number c.name_at.result.now c.name_at.ensures)
    c.loop-number.invariant in
    subst (λ (table : List Name). IsAdded c.args.first.now others table to_come)
    (sym (c.in_ok-add.ensures.added
    ∙ ap (with_new c.loop-number.table c.name_at.result.now) c.in_ok-add.ensures.is_new))
    (added_on c.args.first.now others c.loop-number.table to_come c.name_at.result.now so_far)
