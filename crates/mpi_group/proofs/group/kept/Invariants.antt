use Rattle.std.proofs.Common.{◌≡◌, take}
use Rattle.std.specs.List.{filter}
use Rattle.mpi_group.specs.Groups.{is_member}
use Rattle.mpi_group.proofs.group.kept.Given as goal

abbrev pub invariant-loop-process : goal.invariant-loop-process
invariant-loop-process l =
    l.kept.items ≡ filter (λ p. is_member l.group p) (take l.process-index l.processes)
