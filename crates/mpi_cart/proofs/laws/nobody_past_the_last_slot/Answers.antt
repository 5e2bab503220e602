use Rattle.mpi_cart.proofs.StrideLemmas.{nobody_past_the_last_slot}
use Rattle.mpi_cart.proofs.laws.nobody_past_the_last_slot.Goals as goal

pub returns : goal.returns
returns c = nobody_past_the_last_slot
