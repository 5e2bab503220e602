use Rattle.policy_places.proofs.NamedLemmas.{words_are_named}
use Rattle.policy_places.proofs.laws.words_are_named.Goals as goal

pub returns : goal.returns
returns c = words_are_named
