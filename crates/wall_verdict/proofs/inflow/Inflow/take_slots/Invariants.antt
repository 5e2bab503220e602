use Rattle.std.proofs.Common.{ℕ}
use Rattle.wall_verdict.specs.Inflows.{IsInflow, from_slot}
use Rattle.wall_verdict.proofs.inflow.Inflow.take_slots.Given as goal

abbrev pub invariant-loop-slot : goal.invariant-loop-slot
invariant-loop-slot l =
    IsInflow l.case.histories.now.classes (λ (t : ℕ). from_slot l.case.roll.now t l.to) l.slot
    l.self
