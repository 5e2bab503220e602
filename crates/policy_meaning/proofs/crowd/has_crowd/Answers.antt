use Rattle.std.proofs.Common.{◌≡◌, ℕ, ◌<◌, sym, subst, ◌∙◌, arith, inl, inr, length}
use Rattle.std.proofs.lemmas.Bool.{cases_lt, false≢true}
use Rattle.policy_meaning.specs.Warnings.{IsCrowd}
use Rattle.policy_meaning.proofs.ClassLemmas.{rival_known, rivals_turned}
use Rattle.policy_meaning.proofs.crowd.has_crowd.Goals as goal

pub loop-number-preserved : goal.loop-number-preserved
loop-number-preserved c = λ left right low crowd.
    elim (cases_lt left c.loop-number.number) [
      | inl earlier ↦ c.loop-number.invariant left right earlier crowd
      | inr later ↦
          let number : c.unwrap.result ≡ c.loop-number.number = grind arith in
          let here : left ≡ c.unwrap.result = omega (arith, number) in
          false≢true (sym c.if-is_in_crowd.false
          ∙ c.is_in_crowd.ensures.1 (
            right,
            subst (λ d. IsCrowd c.args.policy.now c.args.least d right) here crowd,
          ))
    ]

pub returns : goal.returns
returns c =
    let end = c.datasets-number-end.ensures in
    let each = end.policy.class_for_each in
    let past = c.loop-number-test.false in (
      λ t. absurd (false≢true t),
      λ h.
          let known = rival_known c.args.policy.now.classes h.1 h.0
          (rivals_turned c.args.policy.now.classes h.0 h.1 h.2.rivals) in
          absurd (c.loop-number.invariant h.0 h.1 (omega arith) h.2),
    )
