use Rattle.std.proofs.Common.{◌≡◌, ◌≤◌, ◌++◌, length, drop, None}
use Rattle.std.specs.Prelude.{vec_capacity}
use Rattle.mpi_comm.specs.declared.table.TheConstants.{COMMUNICATOR_LIMIT}
use Rattle.run_state.specs.Laid.{laid}
use Rattle.run_state.proofs.making.enter_plain.Given as goal

abbrev pub invariant-loop-comm : goal.invariant-loop-comm
invariant-loop-comm l = record {
  count : length l.shapes.items ≡ l.comm;
  all : l.shapes.items ++ laid None (drop l.comm l.table)
      ≡ l.initial.shapes.items ++ laid None (drop (length l.initial.shapes.items) l.table);
  room : COMMUNICATOR_LIMIT ≤ vec_capacity l.shapes;
}
