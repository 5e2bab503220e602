use Rattle.std.proofs.Common.{◌≡◌, map, take}
use Rattle.mpi_group.specs.Groups.{members_at}
use Rattle.mpi_comm.specs.Splits.{ranks_for}
use Rattle.mpi_comm.proofs.split.split_groups.Given as goal

abbrev pub invariant-loop-colour : goal.invariant-loop-colour
invariant-loop-colour l = l.made.items
    ≡ map (λ colour. members_at l.group (ranks_for colour l.asks))
    (take l.colour-index l.colour-items)
