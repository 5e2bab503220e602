use Rattle.wall_policy.proofs.NumberingLemmas.{grown_files_are_policies}
use Rattle.wall_policy.proofs.growth_laws.grown_files_are_policies.Goals as goal

pub returns : goal.returns
returns c = grown_files_are_policies
