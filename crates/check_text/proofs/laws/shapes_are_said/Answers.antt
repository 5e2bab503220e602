use Rattle.check_text.proofs.WordLemmas.{shapes_are_said}
use Rattle.check_text.proofs.laws.shapes_are_said.Goals as goal

pub returns : goal.returns
returns c = shapes_are_said
