use Rattle.coll_routes.proofs.LawLemmas.{places_have_one_source}
use Rattle.coll_routes.proofs.laws.places_have_one_source.Goals as goal

pub returns : goal.returns
returns c = places_have_one_source
