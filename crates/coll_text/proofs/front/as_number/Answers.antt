use Rattle.std.proofs.Common.{◌≡◌, ◌≤◌, length, take, true, arith, rules}
use Rattle.std.specs.List.{list_all}
use Rattle.coll_text.specs.Numbers.{is_digit, value_after}
use Rattle.coll_text.proofs.FrontLemmas.{front_is}
use Rattle.coll_text.proofs.front.as_number.Goals as goal

pub returns-then-len-eq1-clause-value : goal.returns-then-len-eq1-clause-value
returns-then-len-eq1-clause-value c =
    let e = c.requires in
    let d : list_all is_digit (take 1 c.args.text.now) ≡ true = rw c.if-len-eq1.true at e.digits in
    let v : c.args.value ≡ value_after 0 (take 1 c.args.text.now) = rw c.if-len-eq1.true at e.value
    in
    let le : 1 ≤ length c.args.text.now = omega (arith, e.within, c.if-len-eq1.true) in
    front_is c.args.text.now 1 c.args.value 18446744073709551615 le d v (search rules)
    (omega arith) (λ h. omega arith)

pub returns-clause-value : goal.returns-clause-value
returns-clause-value c =
    let e = c.requires in
    front_is c.args.text.now c.args.len c.args.value 18446744073709551615 e.within e.digits e.value
    (search rules) (omega arith) (λ h. absurd (c.if-text-eq48.false h))
