use Rattle.std.proofs.Common.{◌≡◌, ◌+◌, ◌-◌, ◌<◌, ◌∙◌, ap, refl, length, arith, to_z-of_z}
use Rattle.std.proofs.Common.{unsigned_abs}
use Rattle.std.proofs.lemmas.List.{drop-set}
use Rattle.coll_text.proofs.BatchLemmas.{length_small, minus_first}
use Rattle.coll_text.proofs.digits.put_number.Goals as goal

pub write_digits-start-requires : goal.write_digits-start-requires
write_digits-start-requires c =
    let same = c.unsigned_abs.ensures.value ∙ ap unsigned_abs (to_z-of_z c.ranges.n) in
    let long = length_small c.unsigned_abs.result (omega (arith, same, c.requires.small)) in
    (omega (arith, long, c.requires.room), c.requires.within)

pub returns-then-n-ge0-clause-start : goal.returns-then-n-ge0-clause-start
returns-then-n-ge0-clause-start c =
    let same = c.unsigned_abs.ensures.value ∙ ap unsigned_abs (to_z-of_z c.ranges.n) in
    let long = length_small c.unsigned_abs.result (omega (arith, same, c.requires.small)) in
    omega (arith, long, c.write_digits-start.ensures.start)

pub overflow_sub-bytes : goal.overflow_sub-bytes
overflow_sub-bytes c =
    let same = c.unsigned_abs.ensures.value ∙ ap unsigned_abs (to_z-of_z c.ranges.n) in
    let long = length_small c.unsigned_abs.result (omega (arith, same, c.requires.small)) in
    omega (arith, long, c.requires.room, c.write_digits-start.ensures.start)

pub overflow_sub-result : goal.overflow_sub-result
overflow_sub-result c =
    let same = c.unsigned_abs.ensures.value ∙ ap unsigned_abs (to_z-of_z c.ranges.n) in
    let long = length_small c.unsigned_abs.result (omega (arith, same, c.requires.small)) in
    omega (arith, long, c.requires.room, c.write_digits-start.ensures.start)

pub returns-clause-start : goal.returns-clause-start
returns-clause-start c =
    let same = c.unsigned_abs.ensures.value ∙ ap unsigned_abs (to_z-of_z c.ranges.n) in
    let long = length_small c.unsigned_abs.result (omega (arith, same, c.requires.small)) in
    omega (arith, long, c.requires.room, c.write_digits-start.ensures.start)

pub returns-clause-written : goal.returns-clause-written
returns-clause-written c =
    let w = c.write_digits-start in
    let same = c.unsigned_abs.ensures.value ∙ ap unsigned_abs (to_z-of_z c.ranges.n) in
    let long = length_small c.unsigned_abs.result (omega (arith, same, c.requires.small)) in
    let e : w.result - 1 + 1 ≡ w.result = omega (arith, long, c.requires.room, w.ensures.start) in
    let near : w.result - 1 < length w.new.buf = omega
    (arith, long, c.requires.room, c.requires.within, w.ensures.start, w.auto.buf) in
    drop-set w.new.buf (w.result - 1) 45 near
    ∙ rw (
      e,
      w.ensures.written,
      same,
      ← minus_first c.args.n (rw (to_z-of_z c.ranges.n) at c.if-n-ge0.false),
    ) refl
