use Rattle.mpi_cart.proofs.ShiftLemmas.{neighbours_are_opposite}
use Rattle.mpi_cart.proofs.laws.neighbours_are_opposite.Goals as goal

pub returns : goal.returns
returns c = neighbours_are_opposite
