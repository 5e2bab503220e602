use Rattle.std.proofs.Common.{◌≡◌, ◌<◌, get_or, sym, subst, ◌∙◌, arith, inl, inr}
use Rattle.std.proofs.lemmas.Bool.{cases_lt, false≢true}
use Rattle.wall_labels.specs.declared.op.Op.TheVariants.{Max}
use Rattle.wall_labels.specs.Ops.{op_number, all_ops}
use Rattle.policy_meaning.specs.Warnings.{CanBeSanitised}
use Rattle.policy_meaning.proofs.FactLemmas.{op_is, op_number_below}
use Rattle.policy_meaning.proofs.WarningLemmas.{op_at}
use Rattle.policy_meaning.proofs.due.some_can_be_sanitised.Goals as goal

pub loop-op-preserved : goal.loop-op-preserved
loop-op-preserved c = λ op low can.
    elim (cases_lt (op_number op) c.loop-op.op-index) [
      | inl earlier ↦ c.loop-op.invariant op earlier can
      | inr later ↦
          let at = op_at c.loop-op.op-index c.loop-op-test.true in
          let same : op_number op ≡ op_number (get_or all_ops c.loop-op.op-index Max) =
          omega (arith, at) in
          let here = op_is op (get_or all_ops c.loop-op.op-index Max) same in
          false≢true (sym c.if-can_be_sanitised.false
          ∙ c.can_be_sanitised.ensures.1 (subst (CanBeSanitised c.args.policy.now) here can))
    ]

pub returns : goal.returns
returns c = (
  λ t. absurd (false≢true t),
  λ h. absurd (c.loop-op.invariant h.0
      (let low = op_number_below h.0 in let past = c.loop-op-test.false in omega arith) h.1),
)
