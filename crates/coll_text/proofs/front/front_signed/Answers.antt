use Rattle.std.proofs.Common.{◌≡◌, ◌≤◌, ◌<◌, length, take, drop, true, false, Some, ap, sym, ◌∙◌, eqb}
use Rattle.std.proofs.Common.{get_or, rules, arith, refl}
use Rattle.std.specs.List.{list_all}
use Rattle.coll_text.specs.Numbers.{is_digit, number_within}
use Rattle.coll_text.proofs.FrontLemmas.{first_kept, front_is, nonzero_is, signed_is}
use Rattle.coll_text.proofs.FrontLemmas.{signed_solid, zero_read}
use Rattle.std.proofs.lemmas.Bool.{ne_eqb}
use Rattle.coll_text.proofs.front.front_signed.Goals as goal

pub returns-clause-solid : goal.returns-clause-solid
returns-clause-solid c =
    let some : 1 ≤ length c.args.text.now = search rules in
    let d : list_all is_digit (take c.front_digits-n.result.1
    (drop c.from-signs.result c.args.text.now)) ≡ true
    = rw (← c.split_at.ensures.back) c.front_digits-n.ensures.digits in
    signed_solid (eqb (get_or c.args.text.now 0 0) 45) c.front_digits-n.result.1 c.from-signs.result
    c.args.text.now refl c.from-signs.ensures some d

pub returns-clause-value : goal.returns-clause-value
returns-clause-value c =
    let some : 1 ≤ length c.args.text.now = search rules in
    let digits = c.split_at.result.1.now in
    let len = c.front_digits-n.result.1 in
    let n = c.front_digits-n.result.0 in
    let s = eqb (get_or c.args.text.now 0 0) 45 in
    let e = c.front_digits-n.ensures in
    let any : 0 < len = omega (arith, c.if-len-eq0.false) in
    let number : number_within 18446744073709551615 (take len digits) ≡ Some n = front_is digits
    len n 18446744073709551615 e.within e.digits e.value (search rules) any
    (λ h. absurd (c.if-digits-eq48.false h)) in
    let v : number_within 18446744073709551615
    (take len (drop c.from-signs.result c.args.text.now)) ≡ Some n = rw
    (← c.split_at.ensures.back) number in
    signed_is s 18446744073709551615 n len c.from-signs.result c.args.text.now refl
    c.from-signs.ensures some v
    (nonzero_is s len n digits e.within any e.digits e.value c.if-digits-eq48.false)
    ∙ ap (λ z. Some z) (sym c.with_sign.ensures)

pub returns-else-is_negative-clause-value : goal.returns-else-is_negative-clause-value
returns-else-is_negative-clause-value c =
    let some : 1 ≤ length c.args.text.now = search rules in
    let positive : eqb (get_or c.args.text.now 0 0) 45 ≡ false = ne_eqb _ _ c.if-is_negative.false in
    let first : get_or c.args.text.now 0 0 ≡ 48 = sym
    (first_kept (eqb (get_or c.args.text.now 0 0) 45) c.from-signs.result c.args.text.now
    c.split_at.result.1.now positive c.from-signs.ensures c.split_at.ensures.back)
    ∙ c.if-digits-eq48.true in
    zero_read 18446744073709551615 c.args.text.now some first
    ∙ ap (λ z. Some z) (sym c.with_sign-zero.ensures)
