use Rattle.std.proofs.Common.{◌≡◌, ◌+◌, ◌-◌, ◌≤◌, length, drop}
use Rattle.coll_text.specs.Reading.{parts}
use Rattle.script_places.proofs.ScriptLemmas.{AreFaultsTo}
use Rattle.script_places.proofs.script.faults_of.Given as goal

abbrev pub invariant-loop-line : goal.invariant-loop-line
invariant-loop-line l = record {
  bound : l.number + length l.lines ≤ length l.script + 2;
  some : 1 ≤ l.number;
  left : l.lines ≡ drop (l.number - 1) (parts 10 l.script);
  so_far : AreFaultsTo l.policy (parts 10 l.script) l.number l.list.items;
}

abbrev pub decreases-loop-line : goal.decreases-loop-line
decreases-loop-line l = length l.lines
