use Rattle.run_model.proofs.BookLemmas.{first_is_one}
use Rattle.run_model.proofs.post_laws.first_bad_entry_is_one.Goals as goal

pub returns : goal.returns
returns c = first_is_one
