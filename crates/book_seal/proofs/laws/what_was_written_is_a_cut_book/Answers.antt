use Rattle.book_seal.proofs.CutLemmas.{what_was_written}
use Rattle.book_seal.proofs.laws.what_was_written_is_a_cut_book.Goals as goal

pub returns : goal.returns
returns c = what_was_written
