use Rattle.std.proofs.Common.{◌≡◌, ◌+◌, ◌-◌, ◌<◌, ◌∙◌, refl, length, arith}
use Rattle.std.proofs.lemmas.List.{drop-set}
use Rattle.coll_text.proofs.BatchLemmas.{length_small}
use Rattle.coll_text.proofs.append.write_behind.Goals as goal

pub write_digits-start-requires : goal.write_digits-start-requires
write_digits-start-requires c =
    (omega (arith, length_small c.args.n c.ranges.n.fits, c.requires.room), c.requires.within)

pub overflow_sub-bytes : goal.overflow_sub-bytes
overflow_sub-bytes c =
    let long = length_small c.args.n c.ranges.n.fits in
    omega (arith, long, c.requires.room, c.write_digits-start.ensures.start)

pub overflow_sub-result : goal.overflow_sub-result
overflow_sub-result c =
    let long = length_small c.args.n c.ranges.n.fits in
    omega (arith, long, c.requires.room, c.write_digits-start.ensures.start)

pub returns-clause-written : goal.returns-clause-written
returns-clause-written c =
    let w = c.write_digits-start in
    let long = length_small c.args.n c.ranges.n.fits in
    let e : w.result - 1 + 1 ≡ w.result = omega (arith, long, c.requires.room, w.ensures.start) in
    let near : w.result - 1 < length w.new.buf = omega
    (arith, long, c.requires.room, c.requires.within, w.ensures.start, w.auto.buf) in
    drop-set w.new.buf (w.result - 1) c.args.first near ∙ rw (e, w.ensures.written) refl
