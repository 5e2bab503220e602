use Rattle.std.proofs.Common.{◌≡◌, take, true}
use Rattle.mpi_group.specs.Groups.{is_distinct}
use Rattle.mpi_group.proofs.ranks.are_distinct.Given as goal

abbrev pub invariant-loop-k : goal.invariant-loop-k
invariant-loop-k l = is_distinct (take l.k l.ranks) ≡ true
