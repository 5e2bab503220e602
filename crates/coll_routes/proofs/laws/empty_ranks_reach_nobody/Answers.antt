use Rattle.coll_routes.proofs.LawLemmas.{empty_ranks_reach_nobody}
use Rattle.coll_routes.proofs.laws.empty_ranks_reach_nobody.Goals as goal

pub returns : goal.returns
returns c = empty_ranks_reach_nobody
