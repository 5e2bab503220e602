use Rattle.std.proofs.Common.{refl, subst}
use Rattle.seal_stream.specs.declared.reading.Stage.TheVariants as stages
use Rattle.seal_stream.specs.Steps.{IsJudged}
use Rattle.seal_stream.proofs.JudgeLemmas.{spoilt_more}
use Rattle.seal_stream.proofs.reading.judge.Goals as goal

pub returns-in-Some-clause-judged : goal.returns-in-Some-clause-judged
returns-in-Some-clause-judged c = λ entries said lines kept line number few say judged same.
    spoilt_more c.args.policy.now lines kept line entries c.args.reading.now.audit
    c.args.reading.now.audit c.in-Some.fault said refl
    (subst (λ f. IsJudged c.args.policy.now stages.Entry c.args.reading.now.audit f lines kept
    entries) c.in-Some.is judged)
