use Rattle.run_model.proofs.RunLemmas.{granted_instances_are_whole}
use Rattle.run_model.proofs.run_laws.granted_instances_are_whole.Goals as goal

pub returns : goal.returns
returns c = granted_instances_are_whole
