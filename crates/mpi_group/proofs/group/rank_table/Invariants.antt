use Rattle.std.proofs.Common.{◌≡◌, length, take}
use Rattle.wall_labels.specs.declared.ids.TheConstants.{PROCESS_LIMIT}
use Rattle.mpi_group.specs.Groups.{IsGroup}
use Rattle.mpi_group.specs.Ranks.{IsIndex, reach}
use Rattle.mpi_group.proofs.group.rank_table.Given as goal

abbrev pub invariant-loop-rank : goal.invariant-loop-rank
invariant-loop-rank l = record {
  group : IsGroup (take l.rank l.members);
  long : length l.ranks ≡ PROCESS_LIMIT;
  index : IsIndex (take l.rank l.members) l.ranks;
  reach : l.reach ≡ reach (take l.rank l.members);
}
