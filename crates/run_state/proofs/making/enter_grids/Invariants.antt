use Rattle.std.proofs.Common.{◌≡◌, ◌≤◌, ◌+◌, ◌++◌, length, drop, replicate, Some}
use Rattle.std.specs.Prelude.{vec_capacity}
use Rattle.mpi_cart.specs.Grids.{Topology}
use Rattle.mpi_comm.specs.declared.table.TheConstants.{COMMUNICATOR_LIMIT}
use Rattle.run_state.specs.Laid.{laid}
use Rattle.run_state.proofs.making.enter_grids.Given as goal

abbrev pub invariant-loop-grid : goal.invariant-loop-grid
invariant-loop-grid l = record {
  rest : l.yielded ++ l.grid-iterator.rest.items ≡ l.fn.grids.items;
  count : length l.shapes.items ≡ length l.initial.shapes.items + length l.yielded;
  at : length l.shapes.items ≡ l.comm;
  all : (g : Topology) → l.fn.grids.items ≡ replicate (length l.fn.grids.items) g →
      l.shapes.items ++ laid (Some g) (drop l.comm l.table)
      ≡ l.initial.shapes.items ++ laid (Some g) (drop (length l.initial.shapes.items) l.table);
  room : COMMUNICATOR_LIMIT ≤ vec_capacity l.shapes;
}
