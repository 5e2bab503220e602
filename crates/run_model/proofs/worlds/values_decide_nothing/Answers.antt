use Rattle.run_model.proofs.WorldsLemmas.{values_decide_nothing}
use Rattle.run_model.proofs.worlds.values_decide_nothing.Goals as goal

pub returns : goal.returns
returns c = values_decide_nothing
