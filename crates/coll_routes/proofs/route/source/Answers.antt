use Rattle.coll_routes.proofs.SenderLemmas.{source_low, source_gives, missing_is, comes_from}
use Rattle.coll_routes.proofs.SenderLemmas.{nothing_comes}
use Rattle.coll_routes.proofs.route.source.Goals as goal

pub part_of-requires-clause-rank : goal.part_of-requires-clause-rank
part_of-requires-clause-rank c =
    source_low c.args.roll.now c.args.to c.args.place c.requires.fit c.requires.to c.requires.copies
    c.in-Some.from c.in-Some.ensures.same c.requires.place c.in-Some.ensures.below

pub part_of-requires-clause-gives : goal.part_of-requires-clause-gives
part_of-requires-clause-gives c =
    source_gives c.args.roll.now c.args.to c.args.place c.requires.fit c.requires.to
    c.requires.copies c.in-Some.from c.in-Some.ensures.same

pub returns-in-Some-clause-missing : goal.returns-in-Some-clause-missing
returns-in-Some-clause-missing c =
    missing_is c.args.roll.now c.args.to c.args.place c.requires.fit c.requires.to
    c.requires.copies _ c.in-Some.ensures.same c.requires.place

pub returns-in-Some-clause-from : goal.returns-in-Some-clause-from
returns-in-Some-clause-from c =
    source_low c.args.roll.now c.args.to c.args.place c.requires.fit c.requires.to c.requires.copies
    c.in-Some.from c.in-Some.ensures.same c.requires.place c.in-Some.ensures.below

pub returns-in-Some-clause-comes : goal.returns-in-Some-clause-comes
returns-in-Some-clause-comes c =
    comes_from c.args.roll.now c.args.to c.args.place c.requires.fit c.requires.to
    c.requires.copies c.in-Some.from _ _ c.in-Some.ensures.same
    (rw c.lane_to.ensures at c.part_of.ensures.covers)

pub returns-in-None-clause-missing : goal.returns-in-None-clause-missing
returns-in-None-clause-missing c =
    missing_is c.args.roll.now c.args.to c.args.place c.requires.fit c.requires.to
    c.requires.copies _ c.in-None.ensures.same c.requires.place

pub returns-in-None-clause-comes : goal.returns-in-None-clause-comes
returns-in-None-clause-comes c = λ i x h low.
    nothing_comes c.args.roll.now c.args.to c.args.place c.requires.fit c.requires.to
    c.requires.copies c.in-None.ensures.same i x h
