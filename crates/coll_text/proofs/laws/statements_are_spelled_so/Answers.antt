use Rattle.coll_text.proofs.FoundLemmas.{statement_found}
use Rattle.coll_text.proofs.laws.statements_are_spelled_so.Goals as goal

pub returns-clause-words : goal.returns-clause-words
returns-clause-words c = λ sig own words rest e. (statement_found words sig own rest e).words

pub returns-clause-form : goal.returns-clause-form
returns-clause-form c = λ sig own words rest e. (statement_found words sig own rest e).form
