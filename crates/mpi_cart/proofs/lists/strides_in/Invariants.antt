use Rattle.mpi_cart.proofs.VolumeLemmas.{Divided}
use Rattle.mpi_cart.proofs.lists.strides_in.Given as goal

abbrev pub invariant-loop-size : goal.invariant-loop-size
invariant-loop-size l = Divided l.dims l.size-index l.rest l.strides.items
