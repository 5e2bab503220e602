use Rattle.std.proofs.Common.{◌∙◌, ap}
use Rattle.wall_rules.specs.Histories.{has}
use Rattle.run_model.specs.Posts.{by_verdict}
use Rattle.run_state.proofs.VerdictLemmas.{not_constructor, verdict_outcome, verdict_pairs}
use Rattle.run_state.proofs.steps.settle_full.Goals as goal

pub returns-in-None-clause-outcome : goal.returns-in-None-clause-outcome
returns-in-None-clause-outcome c = λ before is.
    c.by_verdict.ensures ∙ (ap by_verdict c.settle.ensures.verdict
    ∙ verdict_outcome c.args.policy.now (has c.args.histories.now) before c.args.roll.now
    (not_constructor c.args.made before c.args.roll.now c.requires.fit c.in-None.is is))

pub returns-in-None-clause-pairs : goal.returns-in-None-clause-pairs
returns-in-None-clause-pairs c = λ before is.
    c.settle.ensures.pairs
    ∙ verdict_pairs c.args.policy.now (has c.args.histories.now) before c.args.roll.now
    (not_constructor c.args.made before c.args.roll.now c.requires.fit c.in-None.is is)
