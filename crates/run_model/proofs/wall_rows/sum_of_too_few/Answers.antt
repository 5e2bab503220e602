use Rattle.run_model.proofs.WallRowProofs.{sum_of_too_few_is_legal, sum_of_too_few_is_wrong_1}
use Rattle.run_model.proofs.WallRowProofs.{sum_of_too_few_is_wrong_2, sum_of_too_few_is_wrong_3}
use Rattle.run_model.proofs.wall_rows.sum_of_too_few.Goals as goal

pub returns-clause-legal : goal.returns-clause-legal
returns-clause-legal c = sum_of_too_few_is_legal

pub returns-clause-wrong_1 : goal.returns-clause-wrong_1
returns-clause-wrong_1 c = sum_of_too_few_is_wrong_1

pub returns-clause-wrong_2 : goal.returns-clause-wrong_2
returns-clause-wrong_2 c = sum_of_too_few_is_wrong_2

pub returns-clause-wrong_3 : goal.returns-clause-wrong_3
returns-clause-wrong_3 c = sum_of_too_few_is_wrong_3
