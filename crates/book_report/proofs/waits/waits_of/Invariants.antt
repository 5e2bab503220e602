use Rattle.book_report.specs.Turns.{AreWaitsBelow}
use Rattle.book_report.proofs.waits.waits_of.Given as goal

abbrev pub invariant-loop-comm : goal.invariant-loop-comm
invariant-loop-comm l = AreWaitsBelow l.end l.comm l.waits.items
