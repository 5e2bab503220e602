use Rattle.std.proofs.Common.{◌≡◌}
use Rattle.mpi_cart.specs.Grids.{below}
use Rattle.run_state.proofs.steps.all_processes.Given as goal

abbrev pub invariant-loop-number : goal.invariant-loop-number
invariant-loop-number l = l.list.items ≡ below l.number
