use Rattle.policy_meaning.proofs.LawLemmas.{kept_apart_never_meet}
use Rattle.policy_meaning.proofs.laws.kept_apart_never_meet.Goals as goal

pub returns : goal.returns
returns c = kept_apart_never_meet
