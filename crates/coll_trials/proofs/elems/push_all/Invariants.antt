use Rattle.std.proofs.Common.{◌≡◌, length}
use Rattle.coll_trials.proofs.elems.push_all.Given as goal

abbrev pub invariant-loop-number : goal.invariant-loop-number
invariant-loop-number l = record {
  count : length l.builder.numbers ≡ l.number-index;
  room : l.builder.room ≡ length l.numbers;
}
