use Rattle.std.proofs.Common.{◌≡◌, ℕ, ◌<◌, ◌≤◌, ◌++◌, length, take, drop, get_or}
use Rattle.std.specs.List.{flat_map}
use Rattle.coll_text.specs.Reading.{parts}
use Rattle.script_places.specs.declared.found.Found.{Found}
use Rattle.check_text.specs.Lines.{fault_line}
use Rattle.check_text.proofs.script.put_lines.Given as goal

abbrev pub invariant-loop-one : goal.invariant-loop-one
invariant-loop-one l = record {
  lines : l.lines ≡ drop l.passed (parts 10 l.script);
  later : (k : ℕ) (d : Found) → l.one-index ≤ k → k < length l.found →
      l.passed < (get_or l.found k d).line;
  text : l.text.items ≡ l.fn.text.items
      ++ flat_map (fault_line l.path (parts 10 l.script)) (take l.one-index l.found);
}
