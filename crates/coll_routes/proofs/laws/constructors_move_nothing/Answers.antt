use Rattle.coll_routes.proofs.LawLemmas.{constructors_move_nothing}
use Rattle.coll_routes.proofs.laws.constructors_move_nothing.Goals as goal

pub returns : goal.returns
returns c = constructors_move_nothing
