use Rattle.std.proofs.Common.{◌≡◌, ◌+◌, ◌≤◌, length}
use Rattle.hall_script.specs.Scripts.{line_call, script_of, script_from}
use Rattle.hall_script.specs.Answering.{SoFar}
use Rattle.hall_script.proofs.answer.answer_lines.Given as goal

abbrev pub invariant-loop-line : goal.invariant-loop-line
invariant-loop-line g l = record {
  wall : g.M.Answerer.wall l.machine ≡ g.M.Answerer.wall l.fn.machine;
  count : g.W.Sink.failures l.sink ≡ g.W.Sink.failures l.fn.sink;
  bound : l.number + length l.lines ≤ 16777218;
  so_far : SoFar g.M.Answerer.stands (g.M.Answerer.wall l.fn.machine) l.machine
      (g.W.Sink.contents l.fn.sink) (g.W.Sink.contents l.sink) l.text.items
      (script_of (g.M.Answerer.wall l.fn.machine).dataset_names l.script)
      (script_from (line_call (g.M.Answerer.wall l.fn.machine).dataset_names) l.number l.lines);
}

abbrev pub decreases-loop-line : goal.decreases-loop-line
decreases-loop-line g l = length l.lines
