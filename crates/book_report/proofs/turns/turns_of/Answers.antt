use Rattle.std.proofs.Common.{◌≡◌, ◌+◌, List, ℕ, sym, ◌∙◌, subst, true, false, length, arith}
use Rattle.book_report.specs.Reasons.{is_part}
use Rattle.book_report.specs.Turns.{AreTurns}
use Rattle.book_report.proofs.TurnLemmas.{turns_none, turns_same, turns_more}
use Rattle.book_report.proofs.turns.turns_of.Goals as goal

pub loop-at-init : goal.loop-at-init
loop-at-init c = turns_none c.args.book.now.list c.args.process c.args.comm _
    c.new-turns.ensures.items

pub loop-at-preserved-then-not-is_part : goal.loop-at-preserved-then-not-is_part
loop-at-preserved-then-not-is_part c =
    let is : is_part c.get.result.now c.args.process c.args.comm ≡ false =
    sym c.is_part.ensures ∙ c.if-not-is_part.true in
    turns_same c.args.book.now.list c.args.process c.args.comm c.loop-at.at
    c.loop-at.turns.items c.loop-at.invariant c.get.result.now c.get.ensures.entry is

pub loop-at-preserved : goal.loop-at-preserved
loop-at-preserved c =
    let entries = c.args.book.now.list in
    let is : is_part c.get.result.now c.args.process c.args.comm ≡ true =
    sym c.is_part.ensures ∙ c.if-not-is_part.false in
    subst (λ (ts : List ℕ). AreTurns entries (c.loop-at.at + 1) c.args.process c.args.comm ts)
    (sym c.in_ok-push.ensures.items)
    (turns_more entries c.args.process c.args.comm c.loop-at.at c.loop-at.turns.items
    c.loop-at.invariant c.get.result.now c.get.ensures.entry is)

pub returns : goal.returns
returns c =
    let many = c.len-at-end.ensures.value in
    let high = c.loop-at-test.false in
    let same : c.loop-at.at ≡ length c.args.book.now.list = omega arith in
    subst (λ n. AreTurns c.args.book.now.list n c.args.process c.args.comm c.loop-at.turns.items)
    same c.loop-at.invariant
