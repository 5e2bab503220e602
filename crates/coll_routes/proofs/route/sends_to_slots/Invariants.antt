use Rattle.std.proofs.Common.{◌≡◌, ℕ, ◌<◌, false}
use Rattle.coll_routes.specs.Rolls.{sends}
use Rattle.coll_routes.proofs.route.sends_to_slots.Given as goal

abbrev pub invariant-loop-slot : goal.invariant-loop-slot
invariant-loop-slot l = (t : ℕ) → t < l.slot → sends l.roll l.from l.to t ≡ false
