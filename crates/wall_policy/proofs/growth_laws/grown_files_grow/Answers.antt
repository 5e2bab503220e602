use Rattle.wall_policy.proofs.RenumberLemmas.{grown_files_grow}
use Rattle.wall_policy.proofs.growth_laws.grown_files_grow.Goals as goal

pub returns : goal.returns
returns c = grown_files_grow
