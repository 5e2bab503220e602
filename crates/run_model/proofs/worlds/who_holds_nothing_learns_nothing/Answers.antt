use Rattle.run_model.proofs.OutsideLemmas.{who_holds_nothing_learns_nothing}
use Rattle.run_model.proofs.worlds.who_holds_nothing_learns_nothing.Goals as goal

pub returns : goal.returns
returns c = who_holds_nothing_learns_nothing c.values_are_of_routed_ranks.ensures
