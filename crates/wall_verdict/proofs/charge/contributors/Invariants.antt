use Rattle.std.proofs.Common.{◌≡◌}
use Rattle.std.specs.Prelude.{count_by}
use Rattle.mpi_cart.specs.Grids.{below}
use Rattle.wall_verdict.specs.Charges.{contributes}
use Rattle.wall_verdict.proofs.charge.contributors.Given as goal

abbrev pub invariant-loop-from : goal.invariant-loop-from
invariant-loop-from l = l.number ≡ count_by (λ i. contributes l.roll i l.to) (below l.from)
