use Rattle.run_model.proofs.WallRowProofs.{several_outstanding_is_legal}
use Rattle.run_model.proofs.WallRowProofs.{several_outstanding_is_wrong_1}
use Rattle.run_model.proofs.WallRowProofs.{several_outstanding_is_wrong_2}
use Rattle.run_model.proofs.WallRowProofs.{several_outstanding_is_wrong_3}
use Rattle.run_model.proofs.wall_rows.several_outstanding.Goals as goal

pub returns-clause-legal : goal.returns-clause-legal
returns-clause-legal c = several_outstanding_is_legal

pub returns-clause-wrong_1 : goal.returns-clause-wrong_1
returns-clause-wrong_1 c = several_outstanding_is_wrong_1

pub returns-clause-wrong_2 : goal.returns-clause-wrong_2
returns-clause-wrong_2 c = several_outstanding_is_wrong_2

pub returns-clause-wrong_3 : goal.returns-clause-wrong_3
returns-clause-wrong_3 c = several_outstanding_is_wrong_3
