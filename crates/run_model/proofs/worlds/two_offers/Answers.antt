use Rattle.run_model.proofs.WorldRowProofs.{two_offers_are_alike, two_offers_look_the_same}
use Rattle.run_model.proofs.worlds.two_offers.Goals as goal

pub returns-clause-alike : goal.returns-clause-alike
returns-clause-alike c = two_offers_are_alike

pub returns-clause-same : goal.returns-clause-same
returns-clause-same c = two_offers_look_the_same c.values_are_of_routed_ranks.ensures
