use Rattle.std.proofs.Common.{◌+◌, arith, refl}
use Rattle.std.proofs.lemmas.Grind.{common_steps}
use Rattle.policy_meaning.specs.declared.fact.Fact.TheVariants.{HasClass}
use Rattle.policy_meaning.proofs.FactLemmas.{add_fact, past_classes}
use Rattle.policy_meaning.proofs.stated.add_classes.Goals as goal

pub loop-number-preserved : goal.loop-number-preserved
loop-number-preserved c =
    rw c.in_ok-push.ensures.items
    (add_fact c.args.policy.now c.loop-number.list.items
    (HasClass c.unwrap-class.result) c.loop-number.number
    (c.loop-number.number + 1) c.classes-number-end.ensures.policy c.loop-number.invariant
    (grind (arith, common_steps)) (grind arith) refl)

pub returns : goal.returns
returns c =
    let end = c.classes-number-end.ensures in
    past_classes c.args.policy.now c.loop-number.list.items c.loop-number.number end.policy
    c.loop-number.invariant (omega arith) (omega arith)
