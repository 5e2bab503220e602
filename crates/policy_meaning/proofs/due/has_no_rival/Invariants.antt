use Rattle.std.proofs.Common.{◌≡◌, ℕ, ◌<◌, false}
use Rattle.wall_policy.specs.Rivals.{are_rivals}
use Rattle.policy_meaning.proofs.due.has_no_rival.Given as goal

abbrev pub invariant-loop-number : goal.invariant-loop-number
invariant-loop-number l =
    (e : ℕ) → e < l.number → are_rivals l.policy.classes l.dataset e ≡ false
