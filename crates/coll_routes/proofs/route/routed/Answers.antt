use Rattle.std.proofs.Common.{sym, ◌∙◌}
use Rattle.coll_routes.proofs.RouteLemmas.{by_slots}
use Rattle.coll_routes.proofs.route.routed.Goals as goal

pub returns-then-is_neighbourly : goal.returns-then-is_neighbourly
returns-then-is_neighbourly c = c.sends_to_slots.ensures
    ∙ by_slots c.args.roll.now c.args.from c.args.to
    (sym c.is_neighbourly.ensures ∙ c.if-is_neighbourly.true)
