use Rattle.wall_verdict.specs.Charges.{contribution}
use Rattle.wall_verdict.proofs.ChargeLemmas.{AreBrought}
use Rattle.wall_verdict.proofs.charge.contributed.Given as goal

abbrev pub invariant-loop-from : goal.invariant-loop-from
invariant-loop-from l = AreBrought (λ i. contribution l.roll i l.to) l.from l.datasets
