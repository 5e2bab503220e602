use Rattle.run_model.proofs.ChainLemmas.{what_was_held_is_kept}
use Rattle.run_model.proofs.post_laws.what_was_held_is_kept.Goals as goal

pub returns : goal.returns
returns c = what_was_held_is_kept
