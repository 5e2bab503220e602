use Rattle.std.proofs.Common.{◌+◌, ◌≤◌, ◌∷◌, length}
use Rattle.chain_file.specs.Reading.{lines_in, no_runs}
use Rattle.chain_file.proofs.StepLemmas.{IsAt}
use Rattle.chain_file.proofs.read.take_lines.Given as goal

abbrev pub invariant-loop-next : goal.invariant-loop-next
invariant-loop-next l = record {
  few : l.number + length l.lines ≤ 9223372036854775810;
  at : IsAt l.walk l.number l.line l.lines (lines_in no_runs 2 (l.first ∷ l.fn.lines));
}

abbrev pub decreases-loop-next : goal.decreases-loop-next
decreases-loop-next l = length l.lines
