use Rattle.std.proofs.Common.{◌≡◌, ◌≤◌, ◌+◌, length}
use Rattle.hall_script.specs.Filling.{with_words}
use Rattle.hall_script.proofs.elements.fill_plain.Given as goal

abbrev pub invariant-loop-word : goal.invariant-loop-word
invariant-loop-word l = record {
  so_far : with_words l.builder l.words ≡ with_words l.fn.builder l.fn.line;
  kind : l.builder.elem_type ≡ l.fn.builder.elem_type;
  room : l.builder.room ≡ l.fn.builder.room;
  count :
      length l.builder.numbers + length l.words ≡ length l.fn.builder.numbers + length l.fn.line;
  fewer : length l.words ≤ length l.fn.line;
}

abbrev pub decreases-loop-word : goal.decreases-loop-word
decreases-loop-word l = length l.words
