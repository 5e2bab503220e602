use Rattle.std.proofs.Common.{◌≡◌, ◌∙◌, ◌+◌, ◌-◌, [], true, false, ap, sym, arith}
use Rattle.run_model.specs.Comms.{processes}
use Rattle.hall_turn.specs.Known.{Doorway, Known}
use Rattle.hall_turn.specs.Views.{SeatView, maker_left, next_pass}
use Rattle.hall_turn.specs.Answers.{new_pass, new_passes}
use Rattle.hall_turn.proofs.DealLemmas.{all_of_door, more_passes, next_maker, passes_length}
use Rattle.hall_turn.proofs.door.DoorTo.deal.Goals as goal

pub push_reserved-requires : goal.push_reserved-requires
push_reserved-requires g c =
    let i = c.loop-process.invariant in
    let room = i.room in
    let o = c.loop-process.passes.ok in
    let long = passes_length c.args.self.now c.loop-process.process c.loop-process.passes.items
    i.passes in
    let test = c.loop-process-test.true in
    let count = c.self.invariant.0 ∙ ap (λ (d : Doorway). processes d.policy) c.self.view_is in
    omega arith

pub loop-process-preserved : goal.loop-process-preserved
loop-process-preserved g c =
    let i = c.loop-process.invariant in
    let n = c.loop-process.process in
    let door = c.args.self.now in
    let m = c.make_pass-seat.ensures in
    let push = c.push_reserved.ensures in
    let room = i.room in
    let made = c.make_pass-seat.result in
    let pass = m.pass ∙ ap (λ (v : SeatView). (next_pass v, [])) (ap (λ x. x.0) i.maker) in
    let k : Known = record {
      door = record { name = made.table_id; policy = made.me.0.policy };
      process = n;
      seen = made.me.0.seen;
      settled = false;
      booked = true;
    } in
    let is : k ≡ new_pass door n = (λ j. record {
      door =
          record { name = (m.at.1 ∙ i.at) j; policy = (pass j).0.policy };
      process = n;
      seen = (pass j).0.seen;
      settled = false;
      booked = true;
    }) in record {
      at = m.at.0.0 ∙ i.at;
      maker = m.maker ∙ (λ j. (maker_left (i.maker j).0, (i.maker j).1))
          ∙ ap (λ (v : SeatView). (v, [])) (next_maker door.policy n);
      passes = push.items ∙ more_passes door n c.loop-process.passes.items k i.passes is;
      room = omega arith;
    }

pub push_reserved-requires-2 : goal.push_reserved-requires-2
push_reserved-requires-2 g c =
    let i = c.loop-process.invariant in
    let room = i.room in
    let o = c.loop-process.passes.ok in
    let long = passes_length c.args.self.now c.loop-process.process c.loop-process.passes.items
    i.passes in
    let near = c.loop-process.auto.process-end in
    let some = c.self.invariant.1 in
    let count = c.self.invariant.0 ∙ ap (λ (d : Doorway). processes d.policy) c.self.view_is in
    omega arith

pub returns : goal.returns
returns g c =
    let i = c.loop-process.invariant in
    let n = c.loop-process.process in
    let door = c.args.self.now in
    let push = c.push_reserved-2.ensures in
    let last = c.loop-process-test.false in
    let near = c.loop-process.auto.process-end in
    let some = c.self.invariant.1 in
    let count = c.self.invariant.0 ∙ ap (λ (d : Doorway). processes d.policy) c.self.view_is in
    let here : n ≡ c.self.inside.count - 1 = omega arith in
    let all : n + 1 ≡ processes door.policy = omega arith in
    let left = c.loop-process.maker in
    let k : Known = record {
      door = record { name = left.table_id; policy = left.me.0.policy };
      process = c.self.inside.count - 1;
      seen = left.me.0.seen;
      settled = false;
      booked = true;
    } in
    let is : k ≡ new_pass door n = (λ j. record {
      door =
          record { name = i.at j; policy = (i.maker j).0.policy };
      process = sym here j;
      seen = (i.maker j).0.seen;
      settled = false;
      booked = true;
    }) in
    let passes = push.items ∙ more_passes door n c.loop-process.passes.items k i.passes is ∙ ap
    (new_passes door) all in
    record {
      passes = passes;
      of = all_of_door door (processes door.policy) c.push_reserved-2.new.self.items passes;
    }
