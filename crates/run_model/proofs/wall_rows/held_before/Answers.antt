use Rattle.run_model.proofs.WallRowProofs.{held_before_is_denied, held_before_is_wrong_1}
use Rattle.run_model.proofs.WallRowProofs.{held_before_is_delivered, held_before_is_wrong_2}
use Rattle.run_model.proofs.wall_rows.held_before.Goals as goal

pub returns-clause-denied : goal.returns-clause-denied
returns-clause-denied c = held_before_is_denied

pub returns-clause-wrong_1 : goal.returns-clause-wrong_1
returns-clause-wrong_1 c = held_before_is_wrong_1

pub returns-clause-delivered : goal.returns-clause-delivered
returns-clause-delivered c = held_before_is_delivered

pub returns-clause-wrong_2 : goal.returns-clause-wrong_2
returns-clause-wrong_2 c = held_before_is_wrong_2
