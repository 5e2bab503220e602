use Rattle.audit_book.proofs.TextAgainLemmas.{book_again}
use Rattle.audit_book.proofs.laws.books_are_read_again.Goals as goal

pub returns : goal.returns
returns c = λ wall entries policy h small. book_again wall policy entries h small
