use Rattle.std.proofs.Common.{◌≡◌, ◌∙◌, ap, sym, arith}
use Rattle.hall_turn.specs.Views.{own_of}
use Rattle.hall_turn.specs.Steps.{told_of}
use Rattle.hall_turn.specs.Known.{Known}
use Rattle.hall_turn.proofs.MoveLemmas.{joins_pass}
use Rattle.hall_turn.proofs.GatherLemmas.{gathers_one, gathers_more, gathers_all, nil_of, door_is}
use Rattle.hall_turn.proofs.GatherLemmas.{of_rest}
use Rattle.hall_turn.proofs.turns.Turns.gather.Goals as goal

pub loop-pass-init : goal.loop-pass-init
loop-pass-init g c =
    let all = c.args.passes.items in
    let rest = c.pop.new.self.items in
    let k = c.in-Some.first in
    let name = c.args.self.now.table.shared.table_id in
    let e = c.in-Some.ensures.items in
    let s = c.first.inside.seat in
    let own : told_of k ≡ own_of s.me.0 = ap told_of (sym c.first.view_is) ∙
    (λ i. record { process = sym c.first.invariant.process_is i; seen = s.me.0.seen }) in
    record {
      at =
          ap (λ (x : Known). x.door.name) c.first.view_is ∙ door_is all rest k name e c.requires.of;
      of = of_rest all rest k name e c.requires.of;
      gathers = gathers_one all rest k c.first.inside.process s.me e own c.first.invariant;
    }

pub join_seat-requires : goal.join_seat-requires
join_seat-requires g c =
    let i = c.loop-pass.invariant in
    let t = c.args.self.now in
    let w = t.counts.0 in
    let all = c.loop-pass.passes.items in
    let rest = c.pop-in-loop-pass.new.self.items in
    let m = c.loop-pass.seat in
    let o = c.pass.inside.seat in
    let p = c.pass.invariant in
    let parts = p.parts in (
      i.at,
      ap (λ (x : Known). x.door.name) c.pass.view_is
          ∙ door_is all rest c.in-Some-pop.pass t.table.shared.table_id c.in-Some-pop.ensures.items
          i.of,
      p.slots,
      omega arith,
      joins_pass g.M.Machine.stands t.table.shared.key.value m.id m.me.0 o.id o.me.0 i.gathers.out
          p.out i.gathers.some_part (omega arith) i.gathers.ticket p.ticket,
    )

pub loop-pass-preserved : goal.loop-pass-preserved
loop-pass-preserved g c =
    let i = c.loop-pass.invariant in
    let t = c.args.self.now in
    let all = c.loop-pass.passes.items in
    let rest = c.pop-in-loop-pass.new.self.items in
    let k = c.in-Some-pop.pass in
    let o = c.pass.inside.seat in
    let e = c.in-Some-pop.ensures.items in
    let own : told_of k ≡ own_of o.me.0 = ap told_of (sym c.pass.view_is) ∙
    (λ n. record { process = sym c.pass.invariant.process_is n; seen = o.me.0.seen }) in
    record {
      at = c.join_seat.ensures.0 ∙ i.at;
      of = of_rest all rest k t.table.shared.table_id e i.of;
      gathers = gathers_more c.args.passes.items all rest k c.pass.inside.process
          c.loop-pass.seat.me o.me c.join_seat.new.seat.me i.gathers e own c.pass.invariant
          c.join_seat.ensures.2;
    }

pub returns-clause-has : goal.returns-clause-has
returns-clause-has g c =
    let none = c.in_default-pop.ensures.cases in
    let o = c.loop-pass.passes.ok in
    gathers_all c.args.passes.items c.loop-pass.passes.items c.loop-pass.seat.me
    c.loop-pass.invariant.gathers (nil_of c.loop-pass.passes.items (omega (arith, none)))
