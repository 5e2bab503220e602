use Rattle.run_model.proofs.TypeRowProofs.{orders_sums_and_truth_is_legal}
use Rattle.run_model.proofs.TypeRowProofs.{orders_sums_and_truth_is_wrong_1}
use Rattle.run_model.proofs.TypeRowProofs.{orders_sums_and_truth_is_wrong_2}
use Rattle.run_model.proofs.TypeRowProofs.{orders_sums_and_truth_is_wrong_3}
use Rattle.run_model.proofs.type_rows.orders_sums_and_truth.Goals as goal

pub returns-clause-legal : goal.returns-clause-legal
returns-clause-legal c = orders_sums_and_truth_is_legal

pub returns-clause-wrong_1 : goal.returns-clause-wrong_1
returns-clause-wrong_1 c = orders_sums_and_truth_is_wrong_1

pub returns-clause-wrong_2 : goal.returns-clause-wrong_2
returns-clause-wrong_2 c = orders_sums_and_truth_is_wrong_2

pub returns-clause-wrong_3 : goal.returns-clause-wrong_3
returns-clause-wrong_3 c = orders_sums_and_truth_is_wrong_3
