use Rattle.run_model.proofs.WallRowProofs.{sum_of_two_datasets_is_legal}
use Rattle.run_model.proofs.WallRowProofs.{sum_of_two_datasets_is_legal_in_version_2}
use Rattle.run_model.proofs.WallRowProofs.{sum_of_two_datasets_is_wrong_1}
use Rattle.run_model.proofs.WallRowProofs.{sum_of_two_datasets_is_wrong_2}
use Rattle.run_model.proofs.wall_rows.sum_of_two_datasets.Goals as goal

pub returns-clause-legal : goal.returns-clause-legal
returns-clause-legal c = sum_of_two_datasets_is_legal

pub returns-clause-legal_in_version_2 : goal.returns-clause-legal_in_version_2
returns-clause-legal_in_version_2 c = sum_of_two_datasets_is_legal_in_version_2

pub returns-clause-wrong_1 : goal.returns-clause-wrong_1
returns-clause-wrong_1 c = sum_of_two_datasets_is_wrong_1

pub returns-clause-wrong_2 : goal.returns-clause-wrong_2
returns-clause-wrong_2 c = sum_of_two_datasets_is_wrong_2
