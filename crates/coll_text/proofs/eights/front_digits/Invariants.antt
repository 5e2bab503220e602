use Rattle.std.proofs.Common.{◌≤◌, ◌-◌, length}
use Rattle.coll_text.specs.Eights.{IsFrontValue}
use Rattle.coll_text.proofs.eights.front_digits.Given as goal

abbrev pub invariant-loop-len : goal.invariant-loop-len
invariant-loop-len l = record {
  prefix : IsFrontValue l.text l.value l.len;
  few : l.len ≤ 16;
}

abbrev pub decreases-loop-len : goal.decreases-loop-len
decreases-loop-len l = length l.text - l.len
