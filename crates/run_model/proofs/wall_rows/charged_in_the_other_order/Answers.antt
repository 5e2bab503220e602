use Rattle.run_model.proofs.WallRowProofs.{charged_in_the_other_order_is_legal}
use Rattle.run_model.proofs.WallRowProofs.{charged_in_the_other_order_is_wrong_1}
use Rattle.run_model.proofs.wall_rows.charged_in_the_other_order.Goals as goal

pub returns-clause-legal : goal.returns-clause-legal
returns-clause-legal c = charged_in_the_other_order_is_legal

pub returns-clause-wrong_1 : goal.returns-clause-wrong_1
returns-clause-wrong_1 c = charged_in_the_other_order_is_wrong_1
