use Rattle.std.proofs.Common.{sym, ◌∙◌}
use Rattle.coll_routes.proofs.SenderLemmas.{sender_gives, sends_along, sends_nothing}
use Rattle.coll_routes.proofs.route.sends_to.Goals as goal

pub has_part-requires-clause-gives : goal.has_part-requires-clause-gives
has_part-requires-clause-gives c =
    sender_gives c.args.roll.now.sig c.args.roll.now.shape c.args.from c.args.to c.args.place
    (sym c.reaches.ensures ∙ c.if-reaches.true)

pub returns-then-reaches : goal.returns-then-reaches
returns-then-reaches c = rw c.lane_to.ensures at c.has_part.ensures
    ∙ sends_along c.args.roll.now c.args.from c.args.to c.args.place c.requires.from
    (sym c.reaches.ensures ∙ c.if-reaches.true)

pub returns-else-reaches : goal.returns-else-reaches
returns-else-reaches c =
    sends_nothing c.args.roll.now c.args.from c.args.to c.args.place c.requires.from
    (sym c.reaches.ensures ∙ c.if-reaches.false)
