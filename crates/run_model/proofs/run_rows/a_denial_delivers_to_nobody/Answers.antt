use Rattle.run_model.proofs.RunRowProofs.{denial_is_told, delivery_is_not_legal}
use Rattle.run_model.proofs.run_rows.a_denial_delivers_to_nobody.Goals as goal

pub returns-clause-legal : goal.returns-clause-legal
returns-clause-legal c = denial_is_told

pub returns-clause-wrong : goal.returns-clause-wrong
returns-clause-wrong c = delivery_is_not_legal
