use Rattle.std.proofs.Common.{◌<◌, ◌≤◌, ◌-◌, length, take}
use Rattle.coll_text.specs.Reading.{parts}
use Rattle.script_places.specs.Places.{HaveFault}
use Rattle.script_places.proofs.column.words_to_fault.Given as goal

abbrev pub invariant-loop-high : goal.invariant-loop-high
invariant-loop-high l = record {
  apart : l.low < l.high;
  within : l.high ≤ length l.ends;
  have : HaveFault l.policy.dataset_names (take l.high (parts 32 l.line)) l.fault;
  not_yet : HaveFault l.policy.dataset_names (take l.low (parts 32 l.line)) l.fault → ⊥;
}

abbrev pub decreases-loop-high : goal.decreases-loop-high
decreases-loop-high l = l.high - l.low
