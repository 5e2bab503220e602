use Rattle.std.proofs.Common.{◌∙◌}
use Rattle.policy_places.specs.Named.{bad_least_in}
use Rattle.policy_places.proofs.ViewLemmas.{rest_from, here_from}
use Rattle.policy_places.proofs.at_fault.first_bad_least.Goals as goal

pub loop-value-preserved : goal.loop-value-preserved
loop-value-preserved c =
    let none = rw c.in_default.is at c.bad_least_in.ensures in
    rest_from (bad_least_in c.args.version)
    c.args.values.now c.loop-value.value-index c.value-item.result
    c.loop-value-test.true c.value-item.is none
    ∙ c.loop-value.invariant

pub returns-in-Some : goal.returns-in-Some
returns-in-Some c =
    let some = rw c.in-Some.is at c.bad_least_in.ensures in
    here_from (bad_least_in c.args.version)
    c.args.values.now c.loop-value.value-index c.value-item.result
    c.in-Some.key.now c.loop-value-test.true c.value-item.is some
    ∙ c.loop-value.invariant
