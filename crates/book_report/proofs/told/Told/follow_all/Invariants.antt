use Rattle.book_report.specs.Told.{HasTold}
use Rattle.book_report.proofs.told.Told.follow_all.Given as goal

abbrev pub invariant-loop-at : goal.invariant-loop-at
invariant-loop-at l = HasTold l.policy l.book.list l.at l.self
