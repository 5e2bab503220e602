use Rattle.chain_heads.proofs.HeadLemmas.{lines_end_with_heads}
use Rattle.chain_heads.proofs.laws.lines_end_with_heads.Goals as goal

pub returns : goal.returns
returns c = lines_end_with_heads
