use Rattle.std.proofs.Common.{◌≡◌, find, None}
use Rattle.mpi_cart.specs.Grids.{below}
use Rattle.coll_routes.specs.Rolls.{is_barred}
use Rattle.wall_verdict.proofs.judge.first_barred.Given as goal

abbrev pub invariant-loop-rank : goal.invariant-loop-rank
invariant-loop-rank l = find (is_barred l.roll) (below l.rank) ≡ None
