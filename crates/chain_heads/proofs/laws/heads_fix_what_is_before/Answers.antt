use Rattle.chain_heads.proofs.HeadLemmas.{heads_fix_what_is_before}
use Rattle.chain_heads.proofs.laws.heads_fix_what_is_before.Goals as goal

pub returns : goal.returns
returns c = heads_fix_what_is_before
