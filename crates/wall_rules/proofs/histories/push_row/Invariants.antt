use Rattle.wall_rules.proofs.PairLemmas.{HasPairsBelow}
use Rattle.wall_rules.proofs.histories.push_row.Given as goal

abbrev pub invariant-loop-number : goal.invariant-loop-number
invariant-loop-number l = HasPairsBelow l.fn.pairs.items l.process l.row l.number l.pairs.items
