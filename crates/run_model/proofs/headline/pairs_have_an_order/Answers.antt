use Rattle.run_model.proofs.HeadlineRowProofs.{in_order}
use Rattle.run_model.proofs.headline.pairs_have_an_order.Goals as goal

pub returns : goal.returns
returns c = in_order
