use Rattle.mpi_cart.proofs.GridLemmas.{coordinates_are_row_major}
use Rattle.mpi_cart.proofs.laws.coordinates_are_row_major.Goals as goal

pub returns : goal.returns
returns c = coordinates_are_row_major
