use Rattle.std.proofs.Common.{◌∙◌}
use Rattle.coll_trials.proofs.histories.opening_pairs.Goals as goal

pub returns : goal.returns
returns g c = λ p d. c.in-Ok-pairs.ensures p d ∙ (λ i. c.in-Ok.ensures.pairs i p d)
