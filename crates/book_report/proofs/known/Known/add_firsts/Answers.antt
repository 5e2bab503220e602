use Rattle.std.proofs.Common.{◌≡◌, ◌<◌, true, length, subst, below_more, ◌∙◌, arith}
use Rattle.wall_rules.specs.Histories.{has}
use Rattle.book_report.specs.Walk.{knows}
use Rattle.book_report.proofs.WalkLemmas.{opening_within}
use Rattle.book_report.proofs.known.Known.add_firsts.Goals as goal

pub loop-number-preserved : goal.loop-number-preserved
loop-number-preserved c =
    let loop = c.loop-number.invariant in
    let number = c.in-Some.ensures.value in
    record {
      room = c.in_ok-add_firsts_of.ensures.room;
      known = λ entries same before.
          c.in_ok-add_firsts_of.ensures.known c.args.policy.now entries same
          (loop.known entries same before);
      there = λ p d low.
          below_more
          (λ p. d < length c.args.policy.now.dataset_names →
          has c.args.histories.now p d ≡ true → knows c.add_firsts_of.new.self p d ≡ true)
          c.loop-number.number
          (λ p low few h. c.in_ok-add_firsts_of.ensures.grows p d (loop.there p d low few h))
          (subst (λ p. d < length c.args.policy.now.dataset_names →
          has c.args.histories.now p d ≡ true → knows c.add_firsts_of.new.self p d ≡ true) number
          (c.in_ok-add_firsts_of.ensures.there d)) p low;
    }

pub returns-clause-there : goal.returns-clause-there
returns-clause-there c = λ same p d held.
    let policy = c.processes-number-end.ensures.policy in
    let within = opening_within c.args.policy.now p d policy held in
    let all = c.processes-number-end.ensures.number in
    c.loop-number.invariant.there p d (omega (arith, within.0)) within.1
    ((λ i. same i p d) ∙ held)
