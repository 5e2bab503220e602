use Rattle.std.proofs.Common.{sym, ◌∙◌, subst, Some}
use mathlib.Core.Option.{some-injective}
use Rattle.std.specs.Slots.{slots_items}
use Rattle.hall_turn.specs.Steps.{Ends}
use Rattle.hall_turn.proofs.MoveLemmas.{ends}
use Rattle.hall_turn.proofs.turns.Turns.end.Goals as goal

pub unreachable-requires : goal.unreachable-requires
unreachable-requires g c =
    let p = c.args.self.table.shared.key.value in
    let d = c.close_with-closed in
    let w = c.requires.whole in
    let f = ends g.M.Machine.stands p c.args.seat.id c.args.seat.me.0 (slots_items d.result.words)
    (slots_items d.result.slots) d.ensures.values.2 w.parts w.some_part w.out in
    c.in_default.not-Some f.0
    (some-injective c.take-found.result (Some f.0) (sym c.take-found.ensures.value ∙ f.1))

pub returns : goal.returns
returns g c =
    let p = c.args.self.table.shared.key.value in
    let d = c.close_with-closed in
    let w = c.requires.whole in
    let f = ends g.M.Machine.stands p c.args.seat.id c.args.seat.me.0 (slots_items d.result.words)
    (slots_items d.result.slots) d.ensures.values.2 w.parts w.some_part w.out in
    let same = some-injective c.take-found.result (Some f.0) (sym c.take-found.ensures.value ∙ f.1)
    in
    subst (λ h. Ends g.M.Machine.stands p c.args.seat.me.0 h) (cc (same, c.in-Some.is)) f.2
