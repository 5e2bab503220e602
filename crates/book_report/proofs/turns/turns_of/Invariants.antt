use Rattle.book_report.specs.Turns.{AreTurns}
use Rattle.book_report.proofs.turns.turns_of.Given as goal

abbrev pub invariant-loop-at : goal.invariant-loop-at
invariant-loop-at l = AreTurns l.book.list l.at l.process l.comm l.turns.items
