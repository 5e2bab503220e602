use Rattle.std.proofs.Common.{ℕ}
use Rattle.coll_routes.specs.Rolls.{label_of}
use Rattle.wall_verdict.specs.Charges.{dataset_in}
use Rattle.wall_verdict.proofs.InflowLemmas.{inflow_none}
use Rattle.wall_verdict.proofs.inflow.Inflow.of_labels.Goals as goal

pub loop-rank-init : goal.loop-rank-init
loop-rank-init c =
    let classes = c.args.case.now.histories.now.classes in
    let roll = c.args.case.now.roll.now in
    inflow_none classes (λ (i : ℕ). dataset_in (label_of roll i))
    c.before-labels.result
    c.before-labels.ensures.number c.before-labels.ensures.different
    c.before-labels.ensures.datasets
