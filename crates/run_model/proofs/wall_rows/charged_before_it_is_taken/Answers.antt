use Rattle.run_model.proofs.WallRowProofs.{charged_before_it_is_taken_is_legal}
use Rattle.run_model.proofs.WallRowProofs.{charged_before_it_is_taken_is_wrong_1}
use Rattle.run_model.proofs.WallRowProofs.{charged_before_it_is_taken_is_wrong_2}
use Rattle.run_model.proofs.WallRowProofs.{charged_before_it_is_taken_is_wrong_3}
use Rattle.run_model.proofs.WallRowProofs.{charged_before_it_is_taken_is_wrong_4}
use Rattle.run_model.proofs.WallRowProofs.{charged_before_it_is_taken_is_wrong_5}
use Rattle.run_model.proofs.WallRowProofs.{charged_before_it_is_taken_is_wrong_6}
use Rattle.run_model.proofs.wall_rows.charged_before_it_is_taken.Goals as goal

pub returns-clause-legal : goal.returns-clause-legal
returns-clause-legal c = charged_before_it_is_taken_is_legal

pub returns-clause-wrong_1 : goal.returns-clause-wrong_1
returns-clause-wrong_1 c = charged_before_it_is_taken_is_wrong_1

pub returns-clause-wrong_2 : goal.returns-clause-wrong_2
returns-clause-wrong_2 c = charged_before_it_is_taken_is_wrong_2

pub returns-clause-wrong_3 : goal.returns-clause-wrong_3
returns-clause-wrong_3 c = charged_before_it_is_taken_is_wrong_3

pub returns-clause-wrong_4 : goal.returns-clause-wrong_4
returns-clause-wrong_4 c = charged_before_it_is_taken_is_wrong_4

pub returns-clause-wrong_5 : goal.returns-clause-wrong_5
returns-clause-wrong_5 c = charged_before_it_is_taken_is_wrong_5

pub returns-clause-wrong_6 : goal.returns-clause-wrong_6
returns-clause-wrong_6 c = charged_before_it_is_taken_is_wrong_6
