use Rattle.std.proofs.Common.{◌≡◌, ℕ, ◌<◌, ◌≤◌, ◌-◌, false}
use Rattle.policy_places.specs.Places.{prefix_shows}
use Rattle.policy_places.proofs.place.line_of.Given as goal

abbrev pub invariant-loop-line : goal.invariant-loop-line
invariant-loop-line l = record {
  counted : 1 ≤ l.line;
  within : l.line ≤ l.count;
  not_before : (m : ℕ) → 1 ≤ m → m < l.line →
      prefix_shows l.lines l.known l.sign m ≡ false;
}

abbrev pub decreases-loop-line : goal.decreases-loop-line
decreases-loop-line l = l.count - l.line
