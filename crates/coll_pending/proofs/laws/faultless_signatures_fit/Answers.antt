use Rattle.coll_pending.proofs.FitLemmas.{faultless_signatures_fit}
use Rattle.coll_pending.proofs.laws.faultless_signatures_fit.Goals as goal

pub returns : goal.returns
returns c = faultless_signatures_fit
