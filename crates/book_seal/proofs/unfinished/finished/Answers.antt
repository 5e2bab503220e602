use Rattle.std.proofs.Common.{◌≡◌, ℕ, ◌+◌, ◌-◌, List, [], ◌∷◌, take, drop, refl, sym, ap, subst}
use Rattle.std.proofs.Common.{◌∙◌, arith}
use Rattle.audit_book.specs.Faults.{IsLine}
use Rattle.book_seal.proofs.FinishedLemmas.{all_unfinished, up_to_here}
use Rattle.book_seal.proofs.unfinished.finished.Goals as goal

take_none : (text : List ℕ) → take 0 text ≡ []
take_none [] = refl
take_none (b ∷ text) = refl

pub returns-then-text-end-eq10 : goal.returns-then-text-end-eq10
returns-then-text-end-eq10 c =
    let some = c.loop-end-test.true in
    let within = c.loop-end.invariant.within in
    let next : c.loop-end.end - 1 + 1 ≡ c.loop-end.end = omega (arith, some) in
    ap (λ (n : ℕ). take n c.args.text.now) (sym next)
    ∙ sym (up_to_here c.args.text.now (c.loop-end.end - 1) (omega (arith, some, within))
    c.if-text-end-eq10.true
    (subst (λ (n : ℕ). IsLine (drop n c.args.text.now)) (sym next) c.loop-end.invariant.behind))

pub returns : goal.returns
returns c =
    let past = c.loop-end-test.false in
    let none : c.loop-end.end ≡ 0 = omega (arith, past) in
    ap (λ (n : ℕ). take n c.args.text.now) none ∙ take_none c.args.text.now
    ∙ sym (all_unfinished c.args.text.now
    (subst (λ (n : ℕ). IsLine (drop n c.args.text.now)) none c.loop-end.invariant.behind))
