use Rattle.std.proofs.Common.{List, ap, ◌∙◌, arith}
use Rattle.std.specs.Prelude.{filter}
use Rattle.hall_core.specs.declared.slots.Slot.{Slot}
use Rattle.hall_core.specs.Slots.{list_of}
use Rattle.hall_core.proofs.SlotLemmas.{number_long}
use Rattle.hall_core.proofs.LeftLemmas.{counted, filter_held, filter_list, filter_up}
use Rattle.hall_core.proofs.window.Window.drop_nothing.Goals as goal

pub invariant_of-self : goal.invariant_of-self
invariant_of-self g c =
    let f = g.T.Forgettable in
    let laws = g.met.T.Forgettable in
    let slots = c.self.inside.slots.items in
    let held = filter_held f.nothing f.is_left laws.none laws.only slots in
    rw (c.give_back.ensures ∙ c.keep_left.ensures) (record {
      few = c.self.invariant.few;
      ascending = filter_up f.nothing f.is_left laws.none laws.only 0 slots c.self.inside.end
          c.self.invariant.ascending;
      lent = omega arith;
      held = omega (arith, held);
    })

pub returns-clause-list : goal.returns-clause-list
returns-clause-list g c =
    let f = g.T.Forgettable in
    let laws = g.met.T.Forgettable in
    let slots = c.self.inside.slots.items in
    rw (← c.self.view_is)
    (ap (λ (l : List (Slot g.row.T.Denot)). list_of f.nothing l c.self.inside.end)
    (c.give_back.ensures ∙ c.keep_left.ensures)
    ∙ filter_list f.nothing f.is_left laws.none laws.only slots c.self.inside.end
    c.self.invariant.ascending)

pub returns-clause-half : goal.returns-clause-half
returns-clause-half g c =
    let f = g.T.Forgettable in
    let laws = g.met.T.Forgettable in
    let slots = c.self.inside.slots.items in
    let end = c.self.inside.end in
    let new = filter (λ (s : Slot g.row.T.Denot). f.is_left s.thing) slots in
    let held = filter_held f.nothing f.is_left laws.none laws.only slots in
    let left = counted f.nothing f.is_left laws.none laws.only new end
    (filter_up f.nothing f.is_left laws.none laws.only 0 slots end c.self.invariant.ascending) in
    let long = number_long new in
    rw (c.give_back.ensures ∙ c.keep_left.ensures) (omega (arith, held, left, long))
