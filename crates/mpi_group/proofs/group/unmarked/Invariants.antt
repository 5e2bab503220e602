use Rattle.std.proofs.Common.{◌≡◌, not, false, take, get_or}
use Rattle.std.specs.List.{filter}
use Rattle.mpi_group.proofs.group.unmarked.Given as goal

abbrev pub invariant-loop-member : goal.invariant-loop-member
invariant-loop-member l =
    l.left.items ≡ filter (λ p. not (get_or l.marks p false)) (take l.member-index l.members)
