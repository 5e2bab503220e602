use Rattle.std.proofs.Common.{◌≡◌, ◌≤◌, ◌<◌, ◌+◌, ◌*◌, ◌++◌, ◌∷◌, [], length, drop, take}
use Rattle.coll_text.specs.Writing.{spaced_numbers}
use Rattle.coll_text.proofs.digits.put_few.Given as goal

abbrev pub invariant-loop-i : goal.invariant-loop-i
invariant-loop-i l = record {
  low : l.from ≤ l.i;
  high : l.i ≤ l.to;
  room : 176 + 22 * l.i ≤ l.start + 22 * l.to;
  within : l.start < length l.bytes;
  size : length l.bytes ≡ 177;
  so_far : drop l.start l.bytes
      ≡ spaced_numbers (drop l.i (take l.to l.numbers.numbers)) ++ l.behind ∷ [];
}

abbrev pub decreases-loop-i : goal.decreases-loop-i
decreases-loop-i l = l.i
