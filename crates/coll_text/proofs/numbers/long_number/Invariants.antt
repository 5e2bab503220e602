use Rattle.std.proofs.Common.{◌≡◌, ◌≤◌, drop}
use Rattle.coll_text.specs.Numbers.{value_after}
use Rattle.coll_text.proofs.numbers.long_number.Given as goal

abbrev pub invariant-loop-byte : goal.invariant-loop-byte
invariant-loop-byte l = record {
  rest : value_after l.value (drop l.byte-index l.word) ≡ value_after 0 l.word;
  within : l.value ≤ l.most;
}
