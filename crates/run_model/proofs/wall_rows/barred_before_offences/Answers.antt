use Rattle.run_model.proofs.WallRowProofs.{barred_before_offences_is_legal}
use Rattle.run_model.proofs.WallRowProofs.{barred_before_offences_is_wrong_1}
use Rattle.run_model.proofs.WallRowProofs.{barred_before_offences_is_wrong_2}
use Rattle.run_model.proofs.wall_rows.barred_before_offences.Goals as goal

pub returns-clause-legal : goal.returns-clause-legal
returns-clause-legal c = barred_before_offences_is_legal

pub returns-clause-wrong_1 : goal.returns-clause-wrong_1
returns-clause-wrong_1 c = barred_before_offences_is_wrong_1

pub returns-clause-wrong_2 : goal.returns-clause-wrong_2
returns-clause-wrong_2 c = barred_before_offences_is_wrong_2
