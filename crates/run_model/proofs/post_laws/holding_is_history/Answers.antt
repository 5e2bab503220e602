use Rattle.run_model.proofs.HoldingLemmas.{holding_is_history}
use Rattle.run_model.proofs.post_laws.holding_is_history.Goals as goal

pub returns : goal.returns
returns c = holding_is_history
