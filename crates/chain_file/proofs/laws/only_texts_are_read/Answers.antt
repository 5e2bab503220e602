use Rattle.chain_file.proofs.LawLemmas.{only_texts_are_read}
use Rattle.chain_file.proofs.laws.only_texts_are_read.Goals as goal

pub returns : goal.returns
returns c = only_texts_are_read
