use Rattle.run_model.proofs.HoldingLemmas.{nobody_holds_two_rivals}
use Rattle.run_model.proofs.post_laws.nobody_holds_two_rivals.Goals as goal

pub returns : goal.returns
returns c = nobody_holds_two_rivals
