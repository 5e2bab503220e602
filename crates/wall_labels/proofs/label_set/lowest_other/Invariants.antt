use Rattle.std.proofs.Common.{◌≡◌, ℕ, ◌<◌, ◌*◌, ◌&&◌, false}
use Rattle.wall_labels.specs.Rows.{is_set, differs}
use Rattle.wall_labels.proofs.label_set.lowest_other.Given as goal

abbrev pub invariant-loop-place : goal.invariant-loop-place
invariant-loop-place l =
    (k : ℕ) → k < 64 * l.place → (is_set l.words k && differs l.other k) ≡ false
