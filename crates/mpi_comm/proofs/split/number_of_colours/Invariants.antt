use Rattle.std.proofs.Common.{◌≡◌, ◌+◌, ◌≤◌, length}
use Rattle.std.specs.Set.{distinct_count}
use Rattle.std.specs.Ordering.{int_eq}
use Rattle.mpi_comm.proofs.SplitLemmas.{stated}
use Rattle.mpi_comm.proofs.split.number_of_colours.Given as goal

abbrev pub invariant-loop-ask : goal.invariant-loop-ask
invariant-loop-ask l = record {
  counted :
      l.number + distinct_count int_eq (stated l.rest) ≡ distinct_count int_eq (stated l.asks);
  room : l.number + length l.rest ≤ length l.asks;
}

abbrev pub decreases-loop-ask : goal.decreases-loop-ask
decreases-loop-ask l = length l.rest
