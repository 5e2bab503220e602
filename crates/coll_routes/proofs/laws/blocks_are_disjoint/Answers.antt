use Rattle.coll_routes.proofs.LawLemmas.{blocks_are_disjoint}
use Rattle.coll_routes.proofs.laws.blocks_are_disjoint.Goals as goal

pub returns : goal.returns
returns c = blocks_are_disjoint c.neighbours_are_opposite.ensures
