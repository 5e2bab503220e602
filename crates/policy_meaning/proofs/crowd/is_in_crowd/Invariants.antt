use Rattle.std.proofs.Common.{ℕ, ◌<◌}
use Rattle.policy_meaning.specs.Warnings.{IsCrowd}
use Rattle.policy_meaning.proofs.crowd.is_in_crowd.Given as goal

abbrev pub invariant-loop-number : goal.invariant-loop-number
invariant-loop-number l =
    (right : ℕ) → right < l.number → ¬ (IsCrowd l.policy l.least l.left right)
