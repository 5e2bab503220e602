use Rattle.chain_file.proofs.LawLemmas.{heads_decide_chains}
use Rattle.chain_file.proofs.laws.heads_decide_chains.Goals as goal

pub returns : goal.returns
returns c = heads_decide_chains
