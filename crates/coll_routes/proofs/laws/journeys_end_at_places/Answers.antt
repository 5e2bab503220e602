use Rattle.coll_routes.proofs.LawLemmas.{journeys_end_at_places}
use Rattle.coll_routes.proofs.laws.journeys_end_at_places.Goals as goal

pub returns : goal.returns
returns c = journeys_end_at_places c.nobody_past_the_last_slot.ensures
