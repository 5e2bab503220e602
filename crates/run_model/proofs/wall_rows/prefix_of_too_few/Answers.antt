use Rattle.run_model.proofs.WallRowProofs.{prefix_of_too_few_is_legal, prefix_of_too_few_is_wrong_1}
use Rattle.run_model.proofs.WallRowProofs.{prefix_of_too_few_is_wrong_2}
use Rattle.run_model.proofs.wall_rows.prefix_of_too_few.Goals as goal

pub returns-clause-legal : goal.returns-clause-legal
returns-clause-legal c = prefix_of_too_few_is_legal

pub returns-clause-wrong_1 : goal.returns-clause-wrong_1
returns-clause-wrong_1 c = prefix_of_too_few_is_wrong_1

pub returns-clause-wrong_2 : goal.returns-clause-wrong_2
returns-clause-wrong_2 c = prefix_of_too_few_is_wrong_2
