use Rattle.run_model.proofs.ChainLemmas.{rivals_stay}
use Rattle.run_model.proofs.post_laws.rivals_stay.Goals as goal

pub returns : goal.returns
returns c = rivals_stay
