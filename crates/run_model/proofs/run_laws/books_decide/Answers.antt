use Rattle.run_model.proofs.OmitLemmas.{books_decide}
use Rattle.run_model.proofs.run_laws.books_decide.Goals as goal

pub returns : goal.returns
returns c = books_decide
