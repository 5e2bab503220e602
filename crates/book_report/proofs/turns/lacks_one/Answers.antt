use Rattle.std.proofs.Common.{ℕ, ◌<◌, length, refl, subst, arith}
use Rattle.std.specs.Prelude.{Vec, All}
use Rattle.std.specs.Global.{Global}
use Rattle.std.proofs.lemmas.Option.{slice_get_read}
use Rattle.std.proofs.lemmas.List.{take_all}
use Rattle.std.proofs.lemmas.List.Elements.{All-more}
use Rattle.book_report.proofs.turns.lacks_one.Goals as goal

pub returns-then-len-k-clause-some : goal.returns-then-len-k-clause-some
returns-then-len-k-clause-some c = λ is.
    let turns = c.turns-item.result in
    let many = c.len.ensures in
    let high = c.if-len-k.true in (
      c.loop-turns.turns-index,
      turns,
      slice_get_read c.args.all.now (length c.args.all.now) c.loop-turns.turns-index turns refl
          c.loop-turns-test.true c.turns-item.is,
      omega (arith, many, high),
    )

pub loop-turns-preserved : goal.loop-turns-preserved
loop-turns-preserved c =
    let many = c.len.ensures in
    let low = c.if-len-k.false in
    All-more (λ (turns : Vec ℕ Global). c.args.k < length turns.items) c.args.all.now
    c.loop-turns.turns-index c.turns-item.result c.loop-turns-test.true c.loop-turns.invariant
    (subst (λ (turns : Vec ℕ Global). c.args.k < length turns.items) c.turns-item.is
    (omega (arith, many, low)))

pub returns-clause-none : goal.returns-clause-none
returns-clause-none c = λ is. subst (All (λ (turns : Vec ℕ Global). c.args.k < length turns.items))
    (take_all c.loop-turns.turns-index c.args.all.now c.loop-turns-test.false)
    c.loop-turns.invariant
