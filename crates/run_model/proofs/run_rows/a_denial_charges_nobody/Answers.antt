use Rattle.run_model.proofs.RunRowProofs.{public_is_posted, charge_is_not_legal}
use Rattle.run_model.proofs.run_rows.a_denial_charges_nobody.Goals as goal

pub returns-clause-legal : goal.returns-clause-legal
returns-clause-legal c = public_is_posted

pub returns-clause-wrong : goal.returns-clause-wrong
returns-clause-wrong c = charge_is_not_legal
