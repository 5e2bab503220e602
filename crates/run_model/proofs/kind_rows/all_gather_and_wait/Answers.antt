use Rattle.run_model.proofs.KindRowProofs.{all_gather_and_wait_is_legal}
use Rattle.run_model.proofs.KindRowProofs.{all_gather_and_wait_is_wrong_1}
use Rattle.run_model.proofs.kind_rows.all_gather_and_wait.Goals as goal

pub returns-clause-legal : goal.returns-clause-legal
returns-clause-legal c = all_gather_and_wait_is_legal

pub returns-clause-wrong_1 : goal.returns-clause-wrong_1
returns-clause-wrong_1 c = all_gather_and_wait_is_wrong_1
