use Rattle.std.proofs.Common.{◌≡◌, map, take}
use Rattle.mpi_group.specs.Groups.{members_at}
use Rattle.mpi_comm.proofs.table.all_included.Given as goal

abbrev pub invariant-loop-ranks : goal.invariant-loop-ranks
invariant-loop-ranks l =
    l.parts.items ≡ map (λ list. members_at l.group list.items) (take l.ranks-index l.lists)
