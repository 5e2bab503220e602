use Rattle.chain_heads.proofs.HeadLemmas.{heads_decide}
use Rattle.chain_heads.proofs.laws.heads_decide.Goals as goal

pub returns : goal.returns
returns c = heads_decide
