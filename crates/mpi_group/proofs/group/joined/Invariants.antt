use Rattle.std.proofs.Common.{◌≡◌, ◌++◌, not, take}
use Rattle.std.specs.List.{filter}
use Rattle.mpi_group.specs.Groups.{is_member}
use Rattle.mpi_group.proofs.group.joined.Given as goal

abbrev pub invariant-loop-process : goal.invariant-loop-process
invariant-loop-process l = l.members.items
    ≡ l.group ++ filter (λ p. not (is_member l.group p)) (take l.process-index l.process-items)
