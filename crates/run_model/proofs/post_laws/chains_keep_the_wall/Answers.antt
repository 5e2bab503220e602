use Rattle.run_model.proofs.ChainLemmas.{chains_keep_the_wall}
use Rattle.run_model.proofs.post_laws.chains_keep_the_wall.Goals as goal

pub returns : goal.returns
returns c = chains_keep_the_wall
