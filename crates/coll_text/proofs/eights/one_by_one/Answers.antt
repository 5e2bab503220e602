use Rattle.std.proofs.Common.{◌≡◌, ◌≤◌, ◌<◌, length, true, get_or, arith, sym, ◌∙◌, refl}
use Rattle.coll_text.specs.Numbers.{is_digit}
use Rattle.coll_text.proofs.FrontLemmas.{value_more, digits_more, digit_range, fits, fits_more}
use Rattle.coll_text.proofs.eights.one_by_one.Goals as goal

pub overflow_mul-value : goal.overflow_mul-value
overflow_mul-value c =
    let below : c.loop-len.len ≤ 18 = omega (arith, c.loop-len-test.true, c.min-most.ensures) in
    let h = fits c.loop-len.value c.loop-len.len 0 c.loop-len.invariant.small below (omega arith) in
    omega (arith, h)

pub overflow_add-value : goal.overflow_add-value
overflow_add-value c =
    let below : c.loop-len.len ≤ 18 = omega (arith, c.loop-len-test.true, c.min-most.ensures) in
    let range = digit_range (get_or c.args.text.now c.loop-len.len 0)
    (sym c.is_digit_byte.ensures ∙ c.if-not-is_digit_byte.false) in
    let h = fits c.loop-len.value c.loop-len.len c.from.result c.loop-len.invariant.small below
    (omega (arith, range.0, range.1, c.from.ensures)) in omega (arith, h)

pub loop-len-preserved : goal.loop-len-preserved
loop-len-preserved c =
    let near : c.loop-len.len < length c.args.text.now = omega
    (arith, c.loop-len-test.true, c.min-most.ensures) in
    let digit : is_digit (get_or c.args.text.now c.loop-len.len 0) ≡ true = sym
    c.is_digit_byte.ensures ∙ c.if-not-is_digit_byte.false in
    let range = digit_range (get_or c.args.text.now c.loop-len.len 0) digit in
    record {
      within = omega (arith, c.loop-len-test.true);
      digits = digits_more c.args.text.now c.loop-len.len near digit c.loop-len.invariant.digits;
      value = sym (value_more c.args.text.now c.loop-len.len near
          ∙ rw (← c.loop-len.invariant.value, c.from.ensures) refl);
      small = fits_more c.loop-len.value c.loop-len.len c.from.result c.loop-len.invariant.small
          (omega (arith, range.0, range.1, c.from.ensures));
    }
