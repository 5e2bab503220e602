use Rattle.mpi_cart.proofs.NumberLemmas.{Named}
use Rattle.mpi_cart.proofs.cell.rank_from.Given as goal

abbrev pub invariant-loop-k : goal.invariant-loop-k
invariant-loop-k l = Named (record { dims = l.dims; periods = l.periods }) l.numbers l.k l.rank
