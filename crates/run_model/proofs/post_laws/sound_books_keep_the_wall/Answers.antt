use Rattle.run_model.proofs.BookLemmas.{sound_books_keep_the_wall}
use Rattle.run_model.proofs.post_laws.sound_books_keep_the_wall.Goals as goal

pub returns : goal.returns
returns c = sound_books_keep_the_wall
