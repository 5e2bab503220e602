use Rattle.std.proofs.Common.{◌≡◌, ℕ, ◌<◌, sym, subst, ◌∙◌, arith, inl, inr, length}
use Rattle.std.proofs.lemmas.Bool.{cases_lt, false≢true}
use Rattle.policy_meaning.specs.Warnings.{IsCrowd}
use Rattle.policy_meaning.proofs.ClassLemmas.{rival_known}
use Rattle.policy_meaning.proofs.crowd.is_in_crowd.Goals as goal

pub loop-number-preserved : goal.loop-number-preserved
loop-number-preserved c = λ right low crowd.
    elim (cases_lt right c.loop-number.number) [
      | inl earlier ↦ c.loop-number.invariant right earlier crowd
      | inr later ↦
          let number : c.unwrap-right.result ≡ c.loop-number.number = grind arith in
          let here : right ≡ c.unwrap-right.result = omega (arith, number) in
          false≢true (sym c.if-is_crowd.false
          ∙ c.is_crowd.ensures.1
          (subst (IsCrowd c.args.policy.now c.args.least c.args.left) here crowd))
    ]

pub returns : goal.returns
returns c =
    let end = c.datasets-number-end.ensures in
    let each = end.policy.class_for_each in
    let past = c.loop-number-test.false in (
      λ t. absurd (false≢true t),
      λ h.
          let known = rival_known c.args.policy.now.classes c.args.left h.0 h.1.rivals in
          absurd (c.loop-number.invariant h.0 (omega arith) h.1),
    )
