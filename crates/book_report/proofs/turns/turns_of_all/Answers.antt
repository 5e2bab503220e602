use Rattle.std.proofs.Common.{◌≡◌, ◌+◌, ℕ, List, sym, subst, length, arith}
use Rattle.std.specs.Prelude.{Vec}
use Rattle.std.specs.Global.{Global}
use Rattle.book_report.specs.Turns.{AreTurnsBelow}
use Rattle.book_report.proofs.TurnLemmas.{turns_of_none, turns_of_more}
use Rattle.book_report.proofs.turns.turns_of_all.Goals as goal

pub loop-rank-init : goal.loop-rank-init
loop-rank-init c = turns_of_none c.args.book.now.list c.args.comm c.args.group.now _
    c.new-all.ensures.items

pub loop-rank-preserved : goal.loop-rank-preserved
loop-rank-preserved c =
    let entries = c.args.book.now.list in
    subst (λ (vs : List (Vec ℕ Global)).
    AreTurnsBelow entries c.args.comm c.args.group.now (c.loop-rank.rank + 1) vs)
    (sym c.in_ok-push.ensures.items)
    (turns_of_more entries c.args.comm c.args.group.now c.loop-rank.rank c.at-process.result
    c.loop-rank.all.items c.in_ok-turns.turns c.at-process.ensures c.in_ok-turns.ensures
    c.loop-rank.invariant)

pub returns : goal.returns
returns c =
    let many = c.size-rank-end.ensures.value in
    let same : c.loop-rank.rank ≡ length c.args.group.now = omega arith in
    subst (λ j. AreTurnsBelow c.args.book.now.list c.args.comm c.args.group.now j
    c.loop-rank.all.items) same c.loop-rank.invariant
