use Rattle.run_model.proofs.KindRowProofs.{neighbours_of_a_line_is_legal}
use Rattle.run_model.proofs.KindRowProofs.{neighbours_of_a_line_is_wrong_1}
use Rattle.run_model.proofs.KindRowProofs.{neighbours_of_a_line_is_wrong_2}
use Rattle.run_model.proofs.KindRowProofs.{neighbours_of_a_line_is_wrong_3}
use Rattle.run_model.proofs.kind_rows.neighbours_of_a_line.Goals as goal

pub returns-clause-legal : goal.returns-clause-legal
returns-clause-legal c = neighbours_of_a_line_is_legal

pub returns-clause-wrong_1 : goal.returns-clause-wrong_1
returns-clause-wrong_1 c = neighbours_of_a_line_is_wrong_1

pub returns-clause-wrong_2 : goal.returns-clause-wrong_2
returns-clause-wrong_2 c = neighbours_of_a_line_is_wrong_2

pub returns-clause-wrong_3 : goal.returns-clause-wrong_3
returns-clause-wrong_3 c = neighbours_of_a_line_is_wrong_3
