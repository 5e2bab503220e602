use Rattle.mpi_cart.proofs.TableLemmas.{neighbour_below}
use Rattle.mpi_cart.proofs.grid.Grid.neighbour.Goals as goal

pub returns-clause-below : goal.returns-clause-below
returns-clause-below c =
    neighbour_below c.args.self.now c.args.rank c.args.slot _ c.requires c.looked_up.ensures
