use Rattle.wall_verdict.proofs.LawLemmas.{verdicts_name_the_least}
use Rattle.wall_verdict.proofs.laws.verdicts_name_the_least.Goals as goal

pub returns : goal.returns
returns c = verdicts_name_the_least
