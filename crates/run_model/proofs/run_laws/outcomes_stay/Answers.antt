use Rattle.run_model.proofs.RunLemmas.{outcomes_stay}
use Rattle.run_model.proofs.run_laws.outcomes_stay.Goals as goal

pub returns : goal.returns
returns c = outcomes_stay
