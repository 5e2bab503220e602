use Rattle.run_model.proofs.KindRowProofs.{exchanges_is_legal, exchanges_is_wrong_1}
use Rattle.run_model.proofs.KindRowProofs.{exchanges_is_wrong_2}
use Rattle.run_model.proofs.kind_rows.exchanges.Goals as goal

pub returns-clause-legal : goal.returns-clause-legal
returns-clause-legal c = exchanges_is_legal

pub returns-clause-wrong_1 : goal.returns-clause-wrong_1
returns-clause-wrong_1 c = exchanges_is_wrong_1

pub returns-clause-wrong_2 : goal.returns-clause-wrong_2
returns-clause-wrong_2 c = exchanges_is_wrong_2
