use Rattle.wall_verdict.specs.Inflows.{IsLabelled}
use Rattle.wall_verdict.proofs.inflow.Inflow.of_labels.Given as goal

abbrev pub invariant-loop-rank : goal.invariant-loop-rank
invariant-loop-rank l = IsLabelled l.case.histories.now.classes l.case.roll.now l.rank l.labels
