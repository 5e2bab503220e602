use Rattle.std.proofs.Common.{ℕ}
use Rattle.wall_verdict.specs.Charges.{contribution}
use Rattle.wall_verdict.specs.Inflows.{IsInflow}
use Rattle.wall_verdict.proofs.inflow.Inflow.grow.Given as goal

abbrev pub invariant-loop-from : goal.invariant-loop-from
invariant-loop-from l =
    IsInflow l.case.histories.now.classes (λ (i : ℕ). contribution l.case.roll.now i l.to) l.from
    l.self
