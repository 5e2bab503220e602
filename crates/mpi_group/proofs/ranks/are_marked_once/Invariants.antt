use Rattle.std.proofs.Common.{◌≡◌, ℕ, true, false, take, get_or, length}
use Rattle.wall_labels.specs.declared.ids.TheConstants.{PROCESS_LIMIT}
use Rattle.mpi_group.specs.Groups.{is_member, is_distinct}
use Rattle.mpi_group.proofs.ranks.are_marked_once.Given as goal

abbrev pub invariant-loop-rank : goal.invariant-loop-rank
invariant-loop-rank l = record {
  long : length l.marks ≡ PROCESS_LIMIT;
  distinct : is_distinct (take l.rank-index l.ranks) ≡ true;
  marks : (q : ℕ) → get_or l.marks q false ≡ is_member (take l.rank-index l.ranks) q;
}
