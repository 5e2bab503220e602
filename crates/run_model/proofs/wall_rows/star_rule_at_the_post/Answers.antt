use Rattle.run_model.proofs.WallRowProofs.{star_rule_at_the_post_is_legal}
use Rattle.run_model.proofs.WallRowProofs.{star_rule_at_the_post_is_wrong_1}
use Rattle.run_model.proofs.WallRowProofs.{star_rule_at_the_post_is_wrong_2}
use Rattle.run_model.proofs.WallRowProofs.{star_rule_at_the_post_is_wrong_3}
use Rattle.run_model.proofs.WallRowProofs.{star_rule_at_the_post_is_wrong_4}
use Rattle.run_model.proofs.wall_rows.star_rule_at_the_post.Goals as goal

pub returns-clause-legal : goal.returns-clause-legal
returns-clause-legal c = star_rule_at_the_post_is_legal

pub returns-clause-wrong_1 : goal.returns-clause-wrong_1
returns-clause-wrong_1 c = star_rule_at_the_post_is_wrong_1

pub returns-clause-wrong_2 : goal.returns-clause-wrong_2
returns-clause-wrong_2 c = star_rule_at_the_post_is_wrong_2

pub returns-clause-wrong_3 : goal.returns-clause-wrong_3
returns-clause-wrong_3 c = star_rule_at_the_post_is_wrong_3

pub returns-clause-wrong_4 : goal.returns-clause-wrong_4
returns-clause-wrong_4 c = star_rule_at_the_post_is_wrong_4
