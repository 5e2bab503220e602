use Rattle.run_model.proofs.WallRowProofs.{label_enters_at_the_post_is_legal}
use Rattle.run_model.proofs.WallRowProofs.{label_enters_at_the_post_is_wrong_1}
use Rattle.run_model.proofs.wall_rows.label_enters_at_the_post.Goals as goal

pub returns-clause-legal : goal.returns-clause-legal
returns-clause-legal c = label_enters_at_the_post_is_legal

pub returns-clause-wrong_1 : goal.returns-clause-wrong_1
returns-clause-wrong_1 c = label_enters_at_the_post_is_wrong_1
