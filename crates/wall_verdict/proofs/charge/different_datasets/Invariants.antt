use Rattle.std.proofs.Common.{◌≡◌}
use Rattle.std.specs.Prelude.{count_by}
use Rattle.mpi_cart.specs.Grids.{below}
use Rattle.wall_verdict.specs.Charges.{contribution, contributes_another}
use Rattle.wall_verdict.proofs.ChargeLemmas.{AreBrought}
use Rattle.wall_verdict.proofs.charge.different_datasets.Given as goal

abbrev pub invariant-loop-from : goal.invariant-loop-from
invariant-loop-from l = record {
  brought : AreBrought (λ i. contribution l.roll i l.to) l.from l.seen;
  number : l.number ≡ count_by (λ i. contributes_another l.roll i l.to) (below l.from);
}
