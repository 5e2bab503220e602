use Rattle.book_seal.proofs.CutLemmas.{what_was_told_is_kept}
use Rattle.book_seal.proofs.laws.what_was_told_is_kept.Goals as goal

pub returns : goal.returns
returns c = what_was_told_is_kept
