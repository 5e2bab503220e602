use Rattle.script_places.proofs.PlaceLemmas.{columns_are_unique}
use Rattle.script_places.proofs.laws.columns_are_unique.Goals as goal

pub returns : goal.returns
returns c = columns_are_unique
