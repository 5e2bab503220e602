use Rattle.policy_meaning.proofs.ReachLemmas.{out_of_reach}
use Rattle.policy_meaning.proofs.laws.out_of_reach_is_never_sanitised.Goals as goal

pub returns : goal.returns
returns c = out_of_reach c.different_are_counted_once.ensures
