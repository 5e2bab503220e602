use Rattle.std.proofs.Common.{◌≡◌, ◌∙◌, sym, ap}
use Rattle.coll_pending.specs.declared.slot.Slot.{Slot}
use Rattle.coll_routes.specs.Rolls.{is_full}
use Rattle.coll_pending.specs.Queues.{posted}
use Rattle.coll_pending.proofs.SlotLemmas.{full_parts}
use Rattle.coll_pending.proofs.ArriveLemmas.{none_waits, filled_by, filled_low, stands_there}
use Rattle.coll_pending.proofs.ArriveLemmas.{taken_out}
use Rattle.coll_pending.proofs.queues.post.Goals as goal

pub returns-in-None : goal.returns-in-None
returns-in-None g c =
    none_waits c.args.row.now c.enter.new.row c.args.slots.now c.enter.new.slots c.args.meeting.rank
    c.args.brought.stated c.args.brought.part c.enter.result c.in-None.is c.enter.ensures

pub pop-requires : goal.pop-requires
pop-requires g c =
    let it = filled_by c.args.row.now c.enter.new.row c.args.slots.now c.enter.new.slots
    c.args.meeting.rank c.args.meeting.k c.in-Some.key c.args.brought.stated c.args.brought.part
    c.enter.result
    c.requires c.in-Some.is c.enter.ensures in
    filled_low c.args.row.now c.enter.new.row c.args.slots.now c.enter.new.slots
    c.args.meeting.rank c.in-Some.key c.args.brought.stated c.args.brought.part it

pub remove-requires : goal.remove-requires
remove-requires g c =
    let it = filled_by c.args.row.now c.enter.new.row c.args.slots.now c.enter.new.slots
    c.args.meeting.rank c.args.meeting.k c.in-Some.key c.args.brought.stated c.args.brought.part
    c.enter.result
    c.requires c.in-Some.is c.enter.ensures in
    stands_there c.enter.new.slots c.in-Some.key _ it.updates.changed

pub into_full-requires : goal.into_full-requires
into_full-requires g c =
    let it = filled_by c.args.row.now c.enter.new.row c.args.slots.now c.enter.new.slots
    c.args.meeting.rank c.args.meeting.k c.in-Some.key c.args.brought.stated c.args.brought.part
    c.enter.result
    c.requires c.in-Some.is c.enter.ensures in
    let is : c.remove.result ≡ posted c.args.meeting.rank c.args.brought.stated c.args.brought.part
    it.slot =
    (let both = sym c.remove.ensures.value ∙ it.updates.changed in cc) in
    ap (λ (o : Slot g.row.X.Denot). is_full o.parts) is
    ∙ full_parts it.slot c.args.meeting.rank c.args.brought.stated c.args.brought.part it.free
    it.last

pub returns-in-Some : goal.returns-in-Some
returns-in-Some g c =
    let it = filled_by c.args.row.now c.enter.new.row c.args.slots.now c.enter.new.slots
    c.args.meeting.rank c.args.meeting.k c.in-Some.key c.args.brought.stated c.args.brought.part
    c.enter.result
    c.requires c.in-Some.is c.enter.ensures in
    taken_out c.args.row.now c.enter.new.row c.pop.new.row c.args.slots.now c.enter.new.slots
    c.remove.new.self c.args.meeting.rank c.in-Some.key c.args.brought.stated c.args.brought.part
    c.remove.result c.into_full.result it c.pop.ensures c.remove.ensures.value
    c.remove.ensures.updates c.into_full.ensures.roll c.into_full.ensures.parts
