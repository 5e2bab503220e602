use Rattle.std.proofs.Common.{◌≡◌, length, take}
use Rattle.wall_labels.specs.Limits.{process_limit}
use Rattle.wall_rules.specs.Histories.{AddsPairs}
use Rattle.wall_rules.proofs.histories.add_pairs.Given as goal

abbrev pub invariant-loop-process : goal.invariant-loop-process
invariant-loop-process l = record {
  rows : length l.rows.items ≡ process_limit;
  joined : AddsPairs (take l.process-index l.pairs) l.fn.rows.items l.rows.items;
}
