use Rattle.std.proofs.Common.{arith, sym, ◌∙◌}
use Rattle.coll_routes.specs.Rolls.{sends, slots}
use Rattle.coll_routes.proofs.AnyLemmas.{any_at, any_none}
use Rattle.coll_routes.proofs.route.sends_to_slots.Goals as goal

pub returns-then-sends_to : goal.returns-then-sends_to
returns-then-sends_to c = sym (any_at (λ t. sends c.args.roll.now c.args.from c.args.to t) 0
    (slots c.args.roll.now.shape) c.loop-slot.slot (omega arith) (omega arith)
    (sym c.sends_to.ensures ∙ c.if-sends_to.true))

pub returns : goal.returns
returns c = sym (any_none (λ t. sends c.args.roll.now c.args.from c.args.to t) 0
    (slots c.args.roll.now.shape) (λ k h. c.loop-slot.invariant k (omega arith)))
