use Rattle.mpi_cart.proofs.VolumeLemmas.{Kept}
use Rattle.mpi_cart.proofs.lists.kept_items.Given as goal

abbrev pub invariant-loop-k : goal.invariant-loop-k
invariant-loop-k g l = Kept l.keep l.items l.k l.kept.items
