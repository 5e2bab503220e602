use Rattle.std.proofs.Common.{List, [], ◌∷◌, ◌++◌, ◌≡◌, ◌+◌, ap, sym, ◌∙◌, length, arith}
use Rattle.std.proofs.lemmas.List.{length_push}
use Rattle.hall_core.specs.declared.slots.Slot.{Slot}
use Rattle.hall_core.specs.Slots.{list_of, numbers_of}
use Rattle.hall_core.proofs.SlotLemmas.{list_long}
use Rattle.hall_core.proofs.SlotEditLemmas.{push_held, push_list, push_numbers, push_up}
use Rattle.hall_core.proofs.window.Window.push.Goals as goal

pub invariant_of-self : goal.invariant_of-self
invariant_of-self g c =
    let slots = c.self.inside.slots.items in
    let t : Slot g.row.T.Denot = record { number = c.self.inside.end; thing = c.args.thing } in
    let given : length c.args.self.now.list ≡ c.self.inside.end =
    ap (λ w. length w.list) (sym c.self.view_is)
    ∙ list_long g.T.Forgettable.nothing slots c.self.inside.end in
    let few = c.requires.few in
    let long = length_push slots t in
    let lent = c.self.invariant.lent in
    let held = c.self.invariant.held in
    let more = push_held t (λ s. g.T.Forgettable.is_left s.thing) slots c.requires.left in
    rw c.push_reserved.ensures.items (record {
      few = omega (arith, few, given);
      ascending = push_up t 0 slots c.self.invariant.ascending;
      lent = omega (arith, lent, long);
      held = omega (arith, held, long, more);
    })

pub returns-clause-numbers : goal.returns-clause-numbers
returns-clause-numbers g c =
    let slots = c.self.inside.slots.items in
    let nothing = g.T.Forgettable.nothing in
    let t : Slot g.row.T.Denot = record { number = c.self.inside.end; thing = c.args.thing } in
    rw (← c.self.view_is) (ap numbers_of c.push_reserved.ensures.items
    ∙ (push_numbers t slots
    ∙ ap (λ n. numbers_of slots ++ n ∷ []) (sym (list_long nothing slots c.self.inside.end))))

pub returns-clause-list : goal.returns-clause-list
returns-clause-list g c =
    let slots = c.self.inside.slots.items in
    let nothing = g.T.Forgettable.nothing in
    let end = c.self.inside.end in
    let t : Slot g.row.T.Denot = record { number = end; thing = c.args.thing } in
    rw (← c.self.view_is)
    (ap (λ (l : List (Slot g.row.T.Denot)). list_of nothing l (end + 1))
    c.push_reserved.ensures.items ∙ push_list t nothing slots c.self.invariant.ascending)
