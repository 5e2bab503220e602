use Rattle.coll_routes.proofs.LawLemmas.{routes_are_journeys}
use Rattle.coll_routes.proofs.laws.routes_are_journeys.Goals as goal

pub returns : goal.returns
returns c = routes_are_journeys c.nobody_past_the_last_slot.ensures
