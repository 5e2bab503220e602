use Rattle.std.proofs.Common.{ℕ, ◌≤◌, length, take, subst, arith}
use Rattle.std.specs.Prelude.{Vec, All}
use Rattle.std.specs.Global.{Global}
use Rattle.std.proofs.lemmas.List.{take_all}
use Rattle.std.proofs.lemmas.List.Elements.{All-more, All-weaker}
use Rattle.book_report.proofs.turns.most.Goals as goal
use Rattle.book_report.proofs.turns.most.Goals.{then-len-most, else-len-most}

pub loop-turns-preserved : goal.loop-turns-preserved
loop-turns-preserved c =
    let many = c.len.ensures in
    let fits : length c.turns-item.result.items ≤ c.if-len-most.most =
    elim c.if-len-most.branch [
      | then-len-most w ↦
          let new = w.most-is in let again = w.len-most.ensures in omega (arith, new, again)
      | else-len-most w ↦
          let same = w.most-is in
          let high = w.if-len-most.false in
          omega (arith, many, same, high)
    ] in
    let grows : c.loop-turns.most ≤ c.if-len-most.most =
    elim c.if-len-most.branch [
      | then-len-most w ↦
          let new = w.most-is in
          let again = w.len-most.ensures in
          let low = w.if-len-most.true in
          omega (arith, many, new, again, low)
      | else-len-most w ↦ let same = w.most-is in omega (arith, same)
    ] in
    All-more (λ (turns : Vec ℕ Global). length turns.items ≤ c.if-len-most.most) c.args.all.now
    c.loop-turns.turns-index c.turns-item.result c.loop-turns-test.true
    (All-weaker (λ (turns : Vec ℕ Global). length turns.items ≤ c.loop-turns.most)
    (λ (turns : Vec ℕ Global). length turns.items ≤ c.if-len-most.most)
    (λ turns low. omega (arith, low, grows)) (take c.loop-turns.turns-index c.args.all.now)
    c.loop-turns.invariant)
    (subst (λ (turns : Vec ℕ Global). length turns.items ≤ c.if-len-most.most) c.turns-item.is
    fits)

pub returns : goal.returns
returns c = subst (All (λ (turns : Vec ℕ Global). length turns.items ≤ c.loop-turns.most))
    (take_all c.loop-turns.turns-index c.args.all.now c.loop-turns-test.false)
    c.loop-turns.invariant
