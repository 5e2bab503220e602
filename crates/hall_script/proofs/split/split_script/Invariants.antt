use Rattle.std.proofs.Common.{◌+◌, ◌≤◌, length}
use Rattle.hall_script.specs.Scripts.{member_call, members_script, script_from}
use Rattle.run_model.specs.Known.{ScriptsHaveKnownLabels}
use Rattle.hall_script.specs.Splitting.{SplitSoFar}
use Rattle.hall_script.proofs.split.split_script.Given as goal

abbrev pub invariant-loop-line : goal.invariant-loop-line
invariant-loop-line l = record {
  bound : l.number + length l.lines ≤ length l.fn.script + 2;
  so_far : SplitSoFar l.policy (members_script l.policy l.fn.script)
      (script_from (member_call l.policy) l.number l.lines) l.rows.items;
  known : ScriptsHaveKnownLabels l.policy l.rows.items;
}

abbrev pub decreases-loop-line : goal.decreases-loop-line
decreases-loop-line l = length l.lines
