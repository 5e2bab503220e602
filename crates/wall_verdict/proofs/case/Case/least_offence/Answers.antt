use Rattle.std.proofs.Common.{sym, refl}
use Rattle.wall_rules.specs.Histories.{has}
use Rattle.wall_verdict.specs.Verdicts.{offends}
use Rattle.wall_verdict.proofs.PairLemmas.{pairs_none, pairs_found}
use Rattle.wall_verdict.proofs.case.Case.least_offence.Goals as goal

pub loop-to-init : goal.loop-to-init
loop-to-init c = record {
  none = refl;
  collected = c.requires.collected;
}

pub loop-to-preserved : goal.loop-to-preserved
loop-to-preserved c =
    let history = has c.args.self.now.histories.now in
    let wall = c.args.self.now.policy.now in
    let roll = c.args.self.now.roll.now in
    record {
      none = pairs_none (offends wall history roll) roll.shape.size c.loop-to.to
          c.loop-to.invariant.none c.in-None.ensures.least;
      collected = c.offender.ensures.collected;
    }

pub returns-in-Some-clause-least : goal.returns-in-Some-clause-least
returns-in-Some-clause-least c =
    let history = has c.args.self.now.histories.now in
    let wall = c.args.self.now.policy.now in
    let roll = c.args.self.now.roll.now in
    sym (pairs_found (offends wall history roll) roll.shape.size roll.shape.size c.loop-to.to
    c.in-Some.from c.loop-to-test.true c.loop-to.invariant.none c.in-Some.ensures.least)
