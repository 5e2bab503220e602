use Rattle.std.proofs.Common.{◌≡◌, true, subst, below_more}
use Rattle.wall_rules.specs.Histories.{has}
use Rattle.book_report.specs.Walk.{knows}
use Rattle.book_report.proofs.known.Known.add_firsts_of.Goals as goal

pub loop-number-preserved : goal.loop-number-preserved
loop-number-preserved c =
    let loop = c.loop-number.invariant in
    let number = c.in-Some.ensures.value in
    record {
      room = c.in_ok-add_first.ensures.room;
      known = λ wall entries same before.
          c.in_ok-add_first.ensures.known wall entries same (loop.known wall entries same before);
      grows = λ p d h. c.in_ok-add_first.ensures.grows p d (loop.grows p d h);
      there = below_more
          (λ d. has c.args.histories.now c.args.process d ≡ true →
          knows c.add_first.new.self c.args.process d ≡ true)
          c.loop-number.number
          (λ d low h. c.in_ok-add_first.ensures.grows c.args.process d (loop.there d low h))
          (subst (λ d. has c.args.histories.now c.args.process d ≡ true →
          knows c.add_first.new.self c.args.process d ≡ true) number
          c.in_ok-add_first.ensures.there);
    }
