use Rattle.coll_text.proofs.SolidLemmas.{statement_solid}
use Rattle.coll_text.proofs.laws.statements_have_no_spaces_in_words.Goals as goal

pub returns : goal.returns
returns c = statement_solid
