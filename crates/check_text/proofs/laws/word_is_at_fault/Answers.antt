use Rattle.check_text.proofs.WordLemmas.{word_is_at_fault}
use Rattle.check_text.proofs.laws.word_is_at_fault.Goals as goal

pub returns : goal.returns
returns c = word_is_at_fault
