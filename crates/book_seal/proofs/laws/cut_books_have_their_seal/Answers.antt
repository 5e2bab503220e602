use Rattle.book_seal.proofs.CutLemmas.{cut_books_have_their_seal}
use Rattle.book_seal.proofs.laws.cut_books_have_their_seal.Goals as goal

pub returns : goal.returns
returns c = cut_books_have_their_seal
