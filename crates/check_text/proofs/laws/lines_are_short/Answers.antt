use Rattle.check_text.proofs.SentenceLemmas.{lines_are_short}
use Rattle.check_text.proofs.laws.lines_are_short.Goals as goal

pub returns : goal.returns
returns c = lines_are_short
