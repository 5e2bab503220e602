use Rattle.policy_meaning.proofs.AgreeLemmas.{warnings_agree}
use Rattle.policy_meaning.proofs.laws.warnings_agree.Goals as goal

pub returns : goal.returns
returns c = warnings_agree
