use Rattle.audit_book.proofs.BookLemmas.{book_found}
use Rattle.audit_book.proofs.laws.books_are_spelled_so.Goals as goal

pub returns : goal.returns
returns c = λ wall text entries e. book_found wall text entries e
