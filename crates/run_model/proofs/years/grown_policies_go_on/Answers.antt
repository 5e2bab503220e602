use Rattle.run_model.proofs.GrownLemmas.{grown_policies_go_on}
use Rattle.run_model.proofs.years.grown_policies_go_on.Goals as goal

pub returns : goal.returns
returns c = grown_policies_go_on
