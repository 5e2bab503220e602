use Rattle.hall_script.proofs.SayableRowProofs.{posts_of_any_length}
use Rattle.hall_script.proofs.laws.posts_of_any_length_are_sayable.Goals as goal

pub returns : goal.returns
returns c = posts_of_any_length
