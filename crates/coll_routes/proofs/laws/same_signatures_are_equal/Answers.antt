use Rattle.coll_routes.proofs.SignatureLemmas.{same_signatures_are_equal}
use Rattle.coll_routes.proofs.laws.same_signatures_are_equal.Goals as goal

pub returns : goal.returns
returns c = same_signatures_are_equal
