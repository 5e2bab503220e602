use Rattle.std.proofs.Common.{◌≡◌, List, ap, sym, subst, refl, ◌∙◌}
use mathlib.Core.Option.{none}
use Rattle.atomic_table.specs.Table.{step}
use Rattle.wall_policy.specs.Policy.{ChineseWall}
use Rattle.run_model.specs.Runs.{Entry, entry}
use Rattle.hall_turn.specs.Known.{Doorway, Known}
use Rattle.hall_turn.specs.Answers.{EntersAnd}
use Rattle.hall_turn.proofs.TurnLemmas.{carried, says_whether}
use Rattle.hall_turn.proofs.door.DoorTo.carry_out.Goals as goal

pub returns-clause-enters : goal.returns-clause-enters
returns-clause-enters g c =
    let s = c.pass.inside.seat in
    let t = c.turn-told.new.seat in
    let p = c.pass.inside.process in
    let told = c.turn-told.result in
    let e : Entry = entry (g.D.Deed.call c.args.deed) (g.D.Deed.reply told) in
    let Tells : ChineseWall → List Entry → Type 0 = λ wall run.
    g.D.Deed.tells wall run c.args.deed told in
    let door : Doorway = record { name = s.table_id; policy = s.me.0.policy } in
    let new_door : Doorway = record { name = t.table_id; policy = t.me.0.policy } in
    let old = c.pass.inside in
    let new = c.turn-told.new in
    let after : Known = record {
      door = new_door;
      process = p;
      seen = t.me.0.seen;
      settled = new.settled;
      booked = new.booked;
    } in
    let by : e.call.process ≡ p =
    c.requires.by ∙ ap (λ (k : Known). k.process) (sym c.pass.view_is) in
    subst (λ (d : Doorway). EntersAnd c.args.pass.now e (Tells d.policy) after) c.requires.door
    (subst (λ (k : Known). EntersAnd k e (Tells k.door.policy) after) c.pass.view_is
    (carried g.M.Machine.stands door new_door p old.settled new.settled old.booked new.booked e
    Tells c.look.result (step 1 0 0 0 none) s.me c.look.new.seat.me t.me refl by c.pass.invariant
    c.look.ensures.looks c.turn-told.ensures.turned c.turn-told.ensures.tells))

pub returns-clause-settled : goal.returns-clause-settled
returns-clause-settled g c =
    let e : Entry = entry (g.D.Deed.call c.args.deed) (g.D.Deed.reply c.turn-told.result) in
    says_whether g.M.Machine.stands c.turn-told.new.settled e c.look.new.seat.me
    c.turn-told.new.seat.me c.turn-told.ensures.turned c.turn-told.ensures.settled
