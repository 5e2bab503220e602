use Rattle.std.proofs.Common.{◌≡◌, ℕ, ◌<◌, ◌*◌, false}
use Rattle.wall_labels.specs.Rows.{is_missing}
use Rattle.wall_labels.proofs.label_set.lowest_missing.Given as goal

abbrev pub invariant-loop-place : goal.invariant-loop-place
invariant-loop-place l = (k : ℕ) → k < 64 * l.place → is_missing l.words l.other k ≡ false
