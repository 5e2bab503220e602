use Rattle.run_model.proofs.KindRowProofs.{gathers_is_legal, gathers_is_wrong_1, gathers_is_wrong_2}
use Rattle.run_model.proofs.kind_rows.gathers.Goals as goal

pub returns-clause-legal : goal.returns-clause-legal
returns-clause-legal c = gathers_is_legal

pub returns-clause-wrong_1 : goal.returns-clause-wrong_1
returns-clause-wrong_1 c = gathers_is_wrong_1

pub returns-clause-wrong_2 : goal.returns-clause-wrong_2
returns-clause-wrong_2 c = gathers_is_wrong_2
