use Rattle.std.proofs.Common.{◌≡◌, ◌≤◌, ◌-◌, ◌++◌, take, drop}
use Rattle.coll_text.specs.Writing.{spaced_numbers, KeepsPrefix}
use Rattle.coll_text.proofs.digits.put_spaced_up_to.Given as goal

abbrev pub invariant-loop-i : goal.invariant-loop-i
invariant-loop-i l = record {
  low : l.from ≤ l.i;
  within : l.i ≤ l.to;
  so_far : l.fn.text.items ++ spaced_numbers (drop l.from (take l.to l.numbers.numbers))
      ≡ l.text.items ++ spaced_numbers (drop l.i (take l.to l.numbers.numbers));
  prefix : KeepsPrefix l.fn.text.items l.text.items;
}

abbrev pub decreases-loop-i : goal.decreases-loop-i
decreases-loop-i l = l.to - l.i
