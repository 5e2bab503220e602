use Rattle.mpi_cart.proofs.GridLemmas.{coordinates_and_ranks_are_inverse}
use Rattle.mpi_cart.proofs.laws.coordinates_and_ranks_are_inverse.Goals as goal

pub returns : goal.returns
returns c = coordinates_and_ranks_are_inverse
