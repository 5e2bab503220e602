use Rattle.wall_rules.proofs.PairLemmas.{HasRowsBelow}
use Rattle.wall_rules.proofs.histories.pairs_of.Given as goal

abbrev pub invariant-loop-place : goal.invariant-loop-place
invariant-loop-place l = HasRowsBelow l.rows l.place l.pairs.items
