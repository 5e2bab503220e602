use Rattle.wall_verdict.proofs.LawLemmas.{grants_are_joint}
use Rattle.wall_verdict.proofs.laws.grants_are_joint.Goals as goal

pub returns : goal.returns
returns c = grants_are_joint
