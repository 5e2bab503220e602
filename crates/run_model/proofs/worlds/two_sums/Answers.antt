use Rattle.run_model.proofs.WorldRowProofs.{two_sums_are_alike, two_sums_look_the_same}
use Rattle.run_model.proofs.WorldRowProofs.{sums_are_spared}
use Rattle.run_model.proofs.worlds.two_sums.Goals as goal

pub returns-clause-alike : goal.returns-clause-alike
returns-clause-alike c = two_sums_are_alike

pub returns-clause-spared : goal.returns-clause-spared
returns-clause-spared c = sums_are_spared

pub returns-clause-same : goal.returns-clause-same
returns-clause-same c = two_sums_look_the_same c.values_are_of_routed_ranks.ensures
