use Rattle.std.proofs.Common.{◌≡◌, ℕ, ◌<◌, ◌*◌, false}
use Rattle.wall_labels.specs.Rows.{is_in_one}
use Rattle.wall_labels.proofs.label_set.lowest_shared.Given as goal

abbrev pub invariant-loop-place : goal.invariant-loop-place
invariant-loop-place l = (k : ℕ) → k < 64 * l.place → is_in_one l.words l.left l.right k ≡ false
