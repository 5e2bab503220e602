use Rattle.std.proofs.Common.{sym, subst}
use Rattle.wall_rules.specs.Histories.{has}
use Rattle.wall_verdict.specs.Meanings.{IsVerdict}
use Rattle.wall_verdict.proofs.LawLemmas.{verdicts_name_the_least}
use Rattle.wall_verdict.proofs.judge.decide.Goals as goal

pub judge-requires : goal.judge-requires
judge-requires c = c.nothing.ensures c.args.histories.now.classes c.args.roll.now

pub returns-clause-meaning : goal.returns-clause-meaning
returns-clause-meaning c = subst
    (λ v. IsVerdict c.args.policy.now (has c.args.histories.now) c.args.roll.now v)
    (sym c.judge.ensures.verdict) (verdicts_name_the_least c.args.policy.now
    (has c.args.histories.now) c.args.roll.now c.requires.fit)
