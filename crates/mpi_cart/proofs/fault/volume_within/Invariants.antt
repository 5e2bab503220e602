use Rattle.mpi_cart.proofs.VolumeLemmas.{Multiplied}
use Rattle.mpi_cart.proofs.fault.volume_within.Given as goal

abbrev pub invariant-loop-size : goal.invariant-loop-size
invariant-loop-size l = Multiplied l.dims l.size-index l.volume
