use Rattle.std.proofs.Common.{◌≡◌, ℕ, ◌<◌, ◌≤◌, get_or, length, bit_or}
use Rattle.wall_labels.proofs.label_set.join.Given as goal

abbrev pub invariant-loop-place : goal.invariant-loop-place
invariant-loop-place l = record {
  size : length l.words ≡ length l.other;
  below : (p : ℕ) → p < l.place →
      get_or l.words p 0 ≡ bit_or (get_or l.fn.words p 0) (get_or l.other p 0);
  rest : (p : ℕ) → l.place ≤ p → get_or l.words p 0 ≡ get_or l.fn.words p 0;
}
