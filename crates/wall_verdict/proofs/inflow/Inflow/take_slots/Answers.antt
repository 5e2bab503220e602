use Rattle.std.proofs.Common.{ℕ}
use Rattle.wall_verdict.specs.Inflows.{from_slot}
use Rattle.wall_verdict.proofs.InflowLemmas.{inflow_none}
use Rattle.wall_verdict.proofs.inflow.Inflow.take_slots.Goals as goal

pub loop-slot-init : goal.loop-slot-init
loop-slot-init c =
    let classes = c.args.case.now.histories.now.classes in
    let roll = c.args.case.now.roll.now in
    inflow_none classes (λ (t : ℕ). from_slot roll t c.args.to)
    c.before-2.result
    c.before-2.ensures.number c.before-2.ensures.different c.before-2.ensures.datasets
