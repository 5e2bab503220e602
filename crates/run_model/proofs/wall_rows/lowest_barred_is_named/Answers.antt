use Rattle.run_model.proofs.WallRowProofs.{lowest_barred_is_named_is_legal}
use Rattle.run_model.proofs.WallRowProofs.{lowest_barred_is_named_is_wrong_1}
use Rattle.run_model.proofs.WallRowProofs.{lowest_barred_is_named_is_wrong_2}
use Rattle.run_model.proofs.WallRowProofs.{lowest_barred_is_named_is_wrong_3}
use Rattle.run_model.proofs.WallRowProofs.{lowest_barred_is_named_is_wrong_4}
use Rattle.run_model.proofs.wall_rows.lowest_barred_is_named.Goals as goal

pub returns-clause-legal : goal.returns-clause-legal
returns-clause-legal c = lowest_barred_is_named_is_legal

pub returns-clause-wrong_1 : goal.returns-clause-wrong_1
returns-clause-wrong_1 c = lowest_barred_is_named_is_wrong_1

pub returns-clause-wrong_2 : goal.returns-clause-wrong_2
returns-clause-wrong_2 c = lowest_barred_is_named_is_wrong_2

pub returns-clause-wrong_3 : goal.returns-clause-wrong_3
returns-clause-wrong_3 c = lowest_barred_is_named_is_wrong_3

pub returns-clause-wrong_4 : goal.returns-clause-wrong_4
returns-clause-wrong_4 c = lowest_barred_is_named_is_wrong_4
