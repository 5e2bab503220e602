use Rattle.std.proofs.Common.{◌≡◌, ℕ, ◌<◌, ◌^◌, None}
use Rattle.wall_policy.specs.Answer.{tree_of}
use Rattle.policy_places.specs.Prefixes.{prefix}
use Rattle.policy_places.proofs.place.end_of_toml.Given as goal

abbrev pub invariant-loop-line : goal.invariant-loop-line
invariant-loop-line l = record {
  few : l.line < 2 ^ 63;
  behind : (n : ℕ) → l.line < n → tree_of (prefix n l.lines) ≡ None;
}

abbrev pub decreases-loop-line : goal.decreases-loop-line
decreases-loop-line l = l.line
