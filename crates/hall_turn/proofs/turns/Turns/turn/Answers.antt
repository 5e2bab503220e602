use Rattle.std.proofs.Common.{◌∙◌, sym, ap, subst, refl, List, ℕ, Option}
use Rattle.std.specs.Prelude.{◌≡◌, is_some}
use Rattle.hall_turn.specs.Machines.{Carries}
use Rattle.hall_turn.specs.Views.{drawn}
use Rattle.hall_turn.proofs.TurnLemmas.{ready, may_apply, holds_one, stood_after}
use Rattle.hall_turn.proofs.turns.Turns.turn.Goals as goal

pub slot_mut-slot-requires : goal.slot_mut-slot-requires
slot_mut-slot-requires g c = (
  c.await_turn.ensures.at.0 ∙ c.draw-ticket.ensures.at.0 ∙ c.requires.at,
  holds_one g.M.Machine.stands c.draw-ticket.new.seat.me.0 c.await_turn.new.seat.me
      c.await_turn.ensures.holds,
)

pub carry_out_in-told-requires : goal.carry_out_in-told-requires
carry_out_in-told-requires g c =
    may_apply g.M.Machine.stands c.args.seat.now.me.0 c.draw-ticket.new.seat.me
    c.await_turn.new.seat.me
    c.slot_mut-slot.result.now (λ wall. g.D.Deed.may wall c.args.deed)
    (ap (λ m. m.0.policy) c.draw-ticket.ensures.draws) c.await_turn.ensures.holds
    c.slot_mut-slot.ensures.value c.requires.may

pub serve-requires-clause-ready : goal.serve-requires-clause-ready
serve-requires-clause-ready g c =
    let v = c.args.seat.now.me.0 in
    let reply = g.D.Deed.reply c.carry_out_in-told.result in
    let i = c.requires.idle in
    let k = c.carry_out_in-told.ensures.carries in
    ready g.M.Machine.stands v c.draw-ticket.result c.draw-ticket.new.seat.me
    c.await_turn.new.seat.me
    _ c.declare.new.seat.me c.slot_mut-slot.result.now c.carry_out_in-told.new.slot
    (g.D.Deed.call c.of-asked.result.value) reply
    (c.draw-ticket.ensures.draws
    ∙ ap (λ (x : List (ℕ × Option g.row.M.Denot)). (drawn v c.draw-ticket.result, x)) i.slots)
    c.await_turn.ensures.holds c.slot_mut-slot.ensures.value refl c.declare.ensures.declares
    (ap (λ x. (g.D.Deed.call x).process) c.of-asked.ensures ∙ sym i.process_is)
    i.joined (
      k.0,
      k.1,
      k.2,
      k.3,
      subst (λ x. Carries g.M.Machine.stands k.0 k.1 (g.D.Deed.call x) reply)
          (sym c.of-asked.ensures) k.4,
    )

pub returns-clause-stood : goal.returns-clause-stood
returns-clause-stood g c =
    let reply = g.D.Deed.reply c.carry_out_in-told.result in
    let k = c.carry_out_in-told.ensures.carries in
    let stood = stood_after g.M.Machine.stands c.args.seat.now.me.0 c.draw-ticket.new.seat.me
    c.await_turn.new.seat.me
    _ c.declare.new.seat.me c.serve.new.seat.me c.slot_mut-slot.result.now
    c.carry_out_in-told.new.slot (g.D.Deed.call c.of-asked.result.value) reply
    (λ machine. (c.carry_out_in-told.new.booked ≡ is_some (g.M.Machine.booked machine))
    × g.N.Noting.notes c.carry_out_in-told.new.noted (g.M.Machine.booked machine))
    (ap (λ m. m.0.policy) c.draw-ticket.ensures.draws) c.await_turn.ensures.holds
    c.slot_mut-slot.ensures.value refl c.declare.ensures.declares c.serve.ensures.serves (
      k.0,
      k.1,
      k.2,
      k.3,
      subst (λ x. Carries g.M.Machine.stands k.0 k.1 (g.D.Deed.call x) reply)
          (sym c.of-asked.ensures) k.4,
    )
    (λ new is. (
      c.carry_out_in-told.ensures.booked new is,
      c.carry_out_in-told.ensures.notes new is,
    )) in (stood.0, stood.1, stood.2.0, stood.2.1)
