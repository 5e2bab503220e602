use Rattle.std.proofs.Common.{ℕ, ◌<◌}
use Rattle.policy_meaning.specs.Warnings.{IsCrowd}
use Rattle.policy_meaning.proofs.crowd.has_crowd.Given as goal

abbrev pub invariant-loop-number : goal.invariant-loop-number
invariant-loop-number l =
    (left right : ℕ) → left < l.number → ¬ (IsCrowd l.policy l.least left right)
