use Rattle.policy_places.proofs.LawLemmas.{signs_are_faults}
use Rattle.policy_places.proofs.laws.signs_are_faults.Goals as goal

pub returns : goal.returns
returns c = signs_are_faults
