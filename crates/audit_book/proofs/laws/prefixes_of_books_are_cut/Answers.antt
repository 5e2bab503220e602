use Rattle.audit_book.proofs.TextAgainLemmas.{book_cut}
use Rattle.audit_book.proofs.laws.prefixes_of_books_are_cut.Goals as goal

pub returns : goal.returns
returns c = λ wall entries prefix rest policy h small e some.
    book_cut wall policy entries prefix rest h small e some
