use Rattle.audit_book.proofs.SpelledRowProofs.{denied, grid}
use Rattle.audit_book.proofs.laws.worked_books_are_spelled.Goals as goal

pub returns-clause-denied : goal.returns-clause-denied
returns-clause-denied c = denied

pub returns-clause-grid : goal.returns-clause-grid
returns-clause-grid c = grid
