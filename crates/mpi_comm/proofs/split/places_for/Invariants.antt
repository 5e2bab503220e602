use Rattle.std.proofs.Common.{◌≡◌, take}
use Rattle.mpi_comm.specs.Splits.{asked}
use Rattle.mpi_comm.proofs.split.places_for.Given as goal

abbrev pub invariant-loop-rank : goal.invariant-loop-rank
invariant-loop-rank l = l.places.items ≡ asked l.colour (take l.rank l.asks)
