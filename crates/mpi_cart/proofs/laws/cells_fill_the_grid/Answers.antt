use Rattle.mpi_cart.proofs.GridLemmas.{cells_fill_the_grid}
use Rattle.mpi_cart.proofs.laws.cells_fill_the_grid.Goals as goal

pub returns : goal.returns
returns c = cells_fill_the_grid
