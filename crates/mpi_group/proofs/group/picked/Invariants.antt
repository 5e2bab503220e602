use Rattle.std.proofs.Common.{◌≡◌, take}
use Rattle.mpi_group.specs.Groups.{members_at}
use Rattle.mpi_group.proofs.group.picked.Given as goal

abbrev pub invariant-loop-rank : goal.invariant-loop-rank
invariant-loop-rank l = l.picked.items ≡ members_at l.members (take l.rank-index l.ranks)
