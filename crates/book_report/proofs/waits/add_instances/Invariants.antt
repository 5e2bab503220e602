use Rattle.book_report.specs.Turns.{AreWaitsOn}
use Rattle.book_report.proofs.waits.add_instances.Given as goal

abbrev pub invariant-loop-k : goal.invariant-loop-k
invariant-loop-k l = AreWaitsOn l.meeting l.k 0 l.waits.items
