use Rattle.book_seal.proofs.LawLemmas.{one_seal}
use Rattle.book_seal.proofs.laws.a_text_has_one_seal.Goals as goal

pub returns : goal.returns
returns c = λ wall text one other h k. one_seal wall text one other h k
