use Rattle.coll_values.proofs.LawLemmas.{values_are_of_routed_ranks}
use Rattle.coll_values.proofs.laws.values_are_of_routed_ranks.Goals as goal

pub returns : goal.returns
returns c = values_are_of_routed_ranks c.routes_are_journeys.ensures
