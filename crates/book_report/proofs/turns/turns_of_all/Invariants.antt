use Rattle.book_report.specs.Turns.{AreTurnsBelow}
use Rattle.book_report.proofs.turns.turns_of_all.Given as goal

abbrev pub invariant-loop-rank : goal.invariant-loop-rank
invariant-loop-rank l = AreTurnsBelow l.book.list l.comm l.group l.rank l.all.items
