use Rattle.book_report.specs.Turns.{AreWaitsOn}
use Rattle.book_report.proofs.waits.add_members.Given as goal

abbrev pub invariant-loop-rank : goal.invariant-loop-rank
invariant-loop-rank l = AreWaitsOn l.begun.meeting l.begun.k l.rank l.waits.items
