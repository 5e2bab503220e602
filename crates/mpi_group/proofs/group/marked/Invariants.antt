use Rattle.std.proofs.Common.{◌≡◌, ℕ, ◌<◌, false, take, get_or, length}
use Rattle.wall_labels.specs.declared.ids.TheConstants.{PROCESS_LIMIT}
use Rattle.mpi_group.specs.Groups.{is_member, members_at}
use Rattle.mpi_group.proofs.group.marked.Given as goal

abbrev pub invariant-loop-rank : goal.invariant-loop-rank
invariant-loop-rank l = record {
  long : length l.marks ≡ PROCESS_LIMIT;
  marks : (q : ℕ) → q < PROCESS_LIMIT →
      get_or l.marks q false ≡ is_member (members_at l.members (take l.rank-index l.ranks)) q;
}
