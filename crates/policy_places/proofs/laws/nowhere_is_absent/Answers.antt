use Rattle.policy_places.proofs.FoundLemmas.{nowhere_is_absent}
use Rattle.policy_places.proofs.laws.nowhere_is_absent.Goals as goal

pub returns : goal.returns
returns c = nowhere_is_absent
