use Rattle.std.proofs.Common.{◌≡◌, not, take}
use Rattle.std.specs.List.{filter}
use Rattle.mpi_group.specs.Groups.{is_member}
use Rattle.mpi_group.proofs.group.left_out.Given as goal

abbrev pub invariant-loop-process : goal.invariant-loop-process
invariant-loop-process l =
    l.others.items ≡ filter (λ p. not (is_member l.other p)) (take l.process-index l.processes)
