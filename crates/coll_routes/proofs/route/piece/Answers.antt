use Rattle.std.proofs.Common.{sym, ◌∙◌, arith}
use Rattle.coll_routes.proofs.LaneLemmas.{empty_piece}
use Rattle.coll_routes.proofs.SenderLemmas.{sender_gives, goes_along, goes_nowhere}
use Rattle.coll_routes.proofs.route.piece.Goals as goal

pub returns-then-not-reaches-clause-covers : goal.returns-then-not-reaches-clause-covers
returns-then-not-reaches-clause-covers c = λ x h.
    goes_nowhere c.args.roll.now c.args.from c.args.to c.args.place c.requires.from x
    (sym c.reaches.ensures ∙ c.if-not-reaches.true)

pub part_of-piece-requires-clause-gives : goal.part_of-piece-requires-clause-gives
part_of-piece-requires-clause-gives c =
    sender_gives c.args.roll.now.sig c.args.roll.now.shape c.args.from c.args.to c.args.place
    (sym c.reaches.ensures ∙ c.if-not-reaches.false)

pub returns-then-piece-gt0-clause-covers : goal.returns-then-piece-gt0-clause-covers
returns-then-piece-gt0-clause-covers c = λ x h.
    goes_along c.args.roll.now c.args.from c.args.to c.args.place c.requires.from _ x
    (sym c.reaches.ensures ∙ c.if-not-reaches.false)
    (rw c.lane_to.ensures at c.part_of-piece.ensures.covers x h)

pub returns-else-piece-gt0-clause-covers : goal.returns-else-piece-gt0-clause-covers
returns-else-piece-gt0-clause-covers c = λ x h.
    empty_piece c.part_of-piece.result.start c.part_of-piece.result.len x (omega arith)
    ∙ goes_along c.args.roll.now c.args.from c.args.to c.args.place c.requires.from _ x
    (sym c.reaches.ensures ∙ c.if-not-reaches.false)
    (rw c.lane_to.ensures at c.part_of-piece.ensures.covers x h)
