use Rattle.coll_text.proofs.AgainLemmas.{statement_again}
use Rattle.coll_text.proofs.laws.statements_are_read_again.Goals as goal

pub returns : goal.returns
returns c = statement_again
