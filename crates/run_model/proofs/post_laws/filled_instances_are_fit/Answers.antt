use Rattle.run_model.proofs.FitLemmas.{filled_is_fit}
use Rattle.run_model.proofs.post_laws.filled_instances_are_fit.Goals as goal

pub returns : goal.returns
returns c = filled_is_fit
