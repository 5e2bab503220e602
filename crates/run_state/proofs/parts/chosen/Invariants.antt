use Rattle.mpi_cart.proofs.MpiCartLemmas.{Kept}
use Rattle.run_state.proofs.parts.chosen.Given as goal

abbrev pub invariant-loop-k : goal.invariant-loop-k
invariant-loop-k l = Kept l.gone l.numbers l.k l.list.items
