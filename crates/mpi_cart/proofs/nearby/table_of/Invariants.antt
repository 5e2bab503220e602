use Rattle.std.proofs.Common.{◌≡◌, vec_capacity}
use Rattle.mpi_cart.proofs.TableLemmas.{Filled}
use Rattle.mpi_cart.proofs.nearby.table_of.Given as goal

abbrev pub invariant-loop-k : goal.invariant-loop-k
invariant-loop-k l =
    Filled (record { dims = l.dims; periods = l.periods }) l.k l.table.items
    × (vec_capacity l.table ≡ l.number)
