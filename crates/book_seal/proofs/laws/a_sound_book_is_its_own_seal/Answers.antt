use Rattle.book_seal.proofs.LawLemmas.{own_seal}
use Rattle.book_seal.proofs.laws.a_sound_book_is_its_own_seal.Goals as goal

pub returns : goal.returns
returns c = λ wall text entries read sound. own_seal wall text entries read sound
