use Rattle.std.proofs.Common.{drop}
use Rattle.wall_policy.proofs.AnewLemmas.{IsAdded}
use Rattle.wall_policy.proofs.renumber.names_first.Given as goal

abbrev pub invariant-loop-number : goal.invariant-loop-number
invariant-loop-number l = IsAdded l.first l.others l.table (drop l.number l.others)
