use Rattle.std.proofs.Common.{◌∙◌}
use Rattle.policy_places.specs.Named.{misfit_in}
use Rattle.policy_places.proofs.ViewLemmas.{rest_from, here_from}
use Rattle.policy_places.proofs.misfit.first_misfit.Goals as goal

pub loop-value-preserved : goal.loop-value-preserved
loop-value-preserved c =
    let none = rw c.in_default.is at c.misfit_in.ensures in
    rest_from (misfit_in c.args.version c.args.part)
    c.args.values.now c.loop-value.value-index c.value-item.result
    c.loop-value-test.true c.value-item.is none
    ∙ c.loop-value.invariant

pub returns-in-Some : goal.returns-in-Some
returns-in-Some c =
    let some = rw c.in-Some.is at c.misfit_in.ensures in
    here_from (misfit_in c.args.version c.args.part)
    c.args.values.now c.loop-value.value-index c.value-item.result
    c.in-Some.key.now c.loop-value-test.true c.value-item.is some
    ∙ c.loop-value.invariant
