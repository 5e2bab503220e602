use Rattle.wall_verdict.proofs.MeaningLemmas.{charges_are_labels}
use Rattle.wall_verdict.proofs.laws.charges_are_labels.Goals as goal

pub returns : goal.returns
returns c = charges_are_labels
