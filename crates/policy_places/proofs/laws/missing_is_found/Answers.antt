use Rattle.policy_places.proofs.MissingLemmas.{missing_is_found}
use Rattle.policy_places.proofs.laws.missing_is_found.Goals as goal

pub returns : goal.returns
returns c = missing_is_found
