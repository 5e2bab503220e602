use Rattle.coll_routes.proofs.LawLemmas.{missing_places_get_nothing}
use Rattle.coll_routes.proofs.laws.missing_places_get_nothing.Goals as goal

pub returns : goal.returns
returns c = missing_places_get_nothing
