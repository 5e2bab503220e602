use Rattle.check_text.proofs.SentenceLemmas.{sentences_are_printable}
use Rattle.check_text.proofs.laws.sentences_are_printable.Goals as goal

pub returns : goal.returns
returns c = sentences_are_printable
