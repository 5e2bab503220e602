use Rattle.run_model.proofs.OmitLemmas.{only_posts_move}
use Rattle.run_model.proofs.run_laws.only_posts_move.Goals as goal

pub returns : goal.returns
returns c = only_posts_move
