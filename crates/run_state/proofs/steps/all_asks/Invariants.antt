use Rattle.std.proofs.Common.{◌≡◌, map}
use Rattle.std.specs.Option.{option_copied}
use Rattle.mpi_cart.specs.Grids.{below}
use Rattle.run_state.specs.Upcoming.{ask_of}
use Rattle.run_state.proofs.steps.all_asks.Given as goal

abbrev pub invariant-loop-k : goal.invariant-loop-k
invariant-loop-k l =
    l.asks.items ≡ map (ask_of (option_copied l.roll) l.last.rank l.last.own.now) (below l.k)
