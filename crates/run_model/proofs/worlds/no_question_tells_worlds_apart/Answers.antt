use Rattle.run_model.proofs.OutsideLemmas.{no_question_tells_worlds_apart}
use Rattle.run_model.proofs.worlds.no_question_tells_worlds_apart.Goals as goal

pub returns : goal.returns
returns c = no_question_tells_worlds_apart c.values_are_of_routed_ranks.ensures
