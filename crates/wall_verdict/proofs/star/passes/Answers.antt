use Rattle.std.proofs.Common.{◌<◌, sym, subst}
use Rattle.wall_labels.specs.declared.ids.TheConstants.{DATASET_LIMIT}
use Rattle.wall_rules.specs.Histories.{has}
use Rattle.wall_verdict.proofs.StarLemmas.{star_failed}
use Rattle.wall_verdict.proofs.star.passes.Goals as goal

pub returns-in-Err-clause-test : goal.returns-in-Err-clause-test
returns-in-Err-clause-test c =
    let low : c.in-Err.other < DATASET_LIMIT = subst (λ n. n < DATASET_LIMIT) c.number.ensures.value
    c.number.ensures.below in
    sym (star_failed (has c.args.histories.now c.args.process) c.args.label c.in-Err.other
    c.in-Err.ensures.lowest low)
