use Rattle.coll_routes.proofs.LawLemmas.{reductions_have_one_block}
use Rattle.coll_routes.proofs.laws.reductions_have_one_block.Goals as goal

pub returns : goal.returns
returns c = reductions_have_one_block
