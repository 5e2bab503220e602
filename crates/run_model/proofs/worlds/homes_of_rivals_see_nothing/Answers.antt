use Rattle.run_model.proofs.OutsideLemmas.{homes_of_rivals_see_nothing}
use Rattle.run_model.proofs.worlds.homes_of_rivals_see_nothing.Goals as goal

pub returns : goal.returns
returns c = homes_of_rivals_see_nothing c.values_are_of_routed_ranks.ensures
