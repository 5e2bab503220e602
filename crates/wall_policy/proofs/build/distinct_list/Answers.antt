use Rattle.std.proofs.Common.{◌≡◌, sym, ap, ◌∙◌}
use Rattle.wall_labels.specs.Ops.{op_of}
use Rattle.wall_policy.specs.Plain.{RuleText}
use Rattle.wall_policy.proofs.BuildLemmas.{named_goes_on, unnamed_goes_on}
use Rattle.wall_policy.proofs.build.distinct_list.Goals as goal
use Rattle.wall_policy.proofs.build.distinct_list.Goals.{in-Some+in_ok-push, in_default}

pub loop-rule-preserved : goal.loop-rule-preserved
loop-rule-preserved c =
    let text : c.as_bytes.result.now ≡ c.rule-item.result.op = c.as_bytes.ensures.value
    ∙ c.as_str.ensures ∙ ap (λ (r : RuleText). r.op) c.rule.view_is in
    let looked : op_of c.rule-item.result.op ≡ c.named.result = ap op_of (sym text)
    ∙ sym c.named.ensures in
    elim c.match-named.branch [
      | in-Some+in_ok-push w ↦
          rw w.list-is (rw w.in_ok-push.ensures.items (rw w.small_distinct.ensures
          (named_goes_on (λ r. r.distinct) c.loop-rule.list.items c.args.rules.now
          c.loop-rule.rule-index c.rule-item.result _ c.loop-rule-test.true c.rule-item.is
          c.loop-rule.invariant w.in-Some.op (looked ∙ w.in-Some.is))))
      | in_default w ↦
          rw w.list-is
          (unnamed_goes_on (λ r. r.distinct) c.loop-rule.list.items c.args.rules.now
          c.loop-rule.rule-index c.rule-item.result _ c.loop-rule-test.true c.rule-item.is
          c.loop-rule.invariant (looked ∙ w.in_default.is))
    ]
