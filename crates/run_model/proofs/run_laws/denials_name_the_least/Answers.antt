use Rattle.run_model.proofs.TellLemmas.{denials_name_the_least}
use Rattle.run_model.proofs.run_laws.denials_name_the_least.Goals as goal

pub returns : goal.returns
returns c = denials_name_the_least
