use Rattle.chain_file.proofs.LawLemmas.{texts_decide}
use Rattle.chain_file.proofs.laws.texts_decide.Goals as goal

pub returns : goal.returns
returns c = texts_decide
