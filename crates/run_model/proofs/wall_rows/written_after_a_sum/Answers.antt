use Rattle.run_model.proofs.WallRowProofs.{written_after_a_sum_is_legal}
use Rattle.run_model.proofs.WallRowProofs.{written_after_a_sum_is_legal_in_version_2}
use Rattle.run_model.proofs.WallRowProofs.{written_after_a_sum_is_wrong_1}
use Rattle.run_model.proofs.WallRowProofs.{written_after_a_sum_is_wrong_2}
use Rattle.run_model.proofs.wall_rows.written_after_a_sum.Goals as goal

pub returns-clause-legal : goal.returns-clause-legal
returns-clause-legal c = written_after_a_sum_is_legal

pub returns-clause-legal_in_version_2 : goal.returns-clause-legal_in_version_2
returns-clause-legal_in_version_2 c = written_after_a_sum_is_legal_in_version_2

pub returns-clause-wrong_1 : goal.returns-clause-wrong_1
returns-clause-wrong_1 c = written_after_a_sum_is_wrong_1

pub returns-clause-wrong_2 : goal.returns-clause-wrong_2
returns-clause-wrong_2 c = written_after_a_sum_is_wrong_2
