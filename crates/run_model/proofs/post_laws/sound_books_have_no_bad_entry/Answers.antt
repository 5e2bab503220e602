use Rattle.run_model.proofs.BookLemmas.{no_bad_entry}
use Rattle.run_model.proofs.post_laws.sound_books_have_no_bad_entry.Goals as goal

pub returns : goal.returns
returns c = no_bad_entry
