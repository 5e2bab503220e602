use Rattle.chain_file.proofs.LawLemmas.{texts_are_read}
use Rattle.chain_file.proofs.laws.texts_are_read.Goals as goal

pub returns : goal.returns
returns c = texts_are_read
