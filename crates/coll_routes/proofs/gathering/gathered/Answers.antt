use Rattle.coll_routes.proofs.SenderLemmas.{reducer_gives, given_alike, sent_alike, until_within}
use Rattle.std.proofs.Common.{arith}
use Rattle.coll_routes.proofs.gathering.gathered.Goals as goal

pub part_of-requires-clause-gives : goal.part_of-requires-clause-gives
part_of-requires-clause-gives c =
    reducer_gives c.args.roll.now.sig c.args.to c.requires.reduces

pub returns-clause-senders : goal.returns-clause-senders
returns-clause-senders c = λ i x h low.
    sent_alike c.args.roll.now i c.args.to c.requires.fit c.requires.reduces h c.requires.to _ _ _
    c.until.ensures (rw c.lane_to.ensures at c.part_of.ensures.covers) x low

pub returns-clause-within : goal.returns-clause-within
returns-clause-within c = λ i h.
    let alike = given_alike c.args.roll.now i c.args.to c.requires.fit c.requires.reduces h
    c.requires.to in
    let within = c.part_of.ensures.within in
    omega arith

pub returns-clause-ranks : goal.returns-clause-ranks
returns-clause-ranks c =
    rw c.until.ensures
    (until_within c.args.roll.now.sig c.args.roll.now.shape c.args.to c.requires.to)
