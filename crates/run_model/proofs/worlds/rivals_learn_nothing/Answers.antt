use Rattle.run_model.proofs.OutsideLemmas.{rivals_learn_nothing}
use Rattle.run_model.proofs.worlds.rivals_learn_nothing.Goals as goal

pub returns : goal.returns
returns c = rivals_learn_nothing c.values_are_of_routed_ranks.ensures
