use Rattle.chain_heads.proofs.HeadLemmas.{heads_decide_files}
use Rattle.chain_heads.proofs.laws.heads_decide_files.Goals as goal

pub returns : goal.returns
returns c = heads_decide_files
