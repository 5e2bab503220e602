use Rattle.policy_meaning.proofs.LawLemmas.{others_are_never_sanitised}
use Rattle.policy_meaning.proofs.laws.others_are_never_sanitised.Goals as goal

pub returns : goal.returns
returns c = others_are_never_sanitised
