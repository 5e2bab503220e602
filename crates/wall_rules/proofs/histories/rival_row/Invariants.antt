use Rattle.wall_rules.proofs.RivalRowLemmas.{IsRowBelow}
use Rattle.wall_rules.proofs.histories.rival_row.Given as goal

abbrev pub invariant-loop-number : goal.invariant-loop-number
invariant-loop-number l = IsRowBelow l.classes l.dataset l.number l.row
