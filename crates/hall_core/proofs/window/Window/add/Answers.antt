use Rattle.std.proofs.Common.{◌≡◌, ◌≤◌, ◌<◌, ap, sym, ◌∙◌, subst, get_or, length, arith}
use Rattle.std.specs.Prelude.{◌↔◌, ◌⊎◌, Contains}
use Rattle.std.specs.List.Sorted.{IsPartitionPoint}
use Rattle.hall_core.specs.declared.slots.Slot.{Slot}
use Rattle.hall_core.specs.Slots.{list_of, numbers_of, AreAscending}
use Rattle.hall_core.specs.Windows.{IsInWindow}
use Rattle.hall_core.proofs.SlotLemmas.{absent_from, list_long, number_long, rising}
use Rattle.hall_core.proofs.SlotEditLemmas.{insert_held, insert_kept, insert_long, insert_same}
use Rattle.hall_core.proofs.SlotEditLemmas.{insert_up}
use Rattle.hall_core.proofs.window.Window.add.Goals as goal

pub place_for-at-requires : goal.place_for-at-requires
place_for-at-requires g c =
    rw c.deref.ensures.value
    (rising 0 c.self.inside.slots.items c.self.inside.end c.self.invariant.ascending)

pub invariant_of-self : goal.invariant_of-self
invariant_of-self g c =
    let slots = c.self.inside.slots.items in
    let end = c.self.inside.end in
    let at = c.place_for-at.result in
    let more = c.max-self-inside.result in
    let t : Slot g.row.T.Denot = record
    { number = c.args.number; thing = c.nothing-thing.result } in
    let none = absent_from slots c.args.number
    (subst (λ w. IsInWindow w c.args.number → ⊥) (sym c.self.view_is) c.requires.apart) in
    let most = c.max-self-inside.ensures in
    let low = c.requires.few in
    let few = c.self.invariant.few in
    let within = subst (λ l. at ≤ length l) c.deref.ensures.value c.place_for-at.ensures.within in
    let long = insert_long t slots at within in
    let more_held = insert_held t (λ s. g.T.Forgettable.is_left s.thing) slots at in
    let lent = c.self.invariant.lent in
    let held = c.self.invariant.held in
    rw c.in-Ok.ensures.items (record {
      few = omega (arith, most, low, few);
      ascending = insert_up t 0 slots end more at c.self.invariant.ascending
          (omega (arith, most)) (omega (arith, most)) (omega arith)
          (subst (λ l. IsPartitionPoint (λ s. s.number < c.args.number)
          (λ s. c.args.number ≤ s.number) l at) c.deref.ensures.value
          c.place_for-at.ensures.between)
          within none;
      lent = omega (arith, lent, long);
      held = omega (arith, held, more_held, long);
    })

pub returns-clause-same : goal.returns-clause-same
returns-clause-same g c j =
    let slots = c.self.inside.slots.items in
    let end = c.self.inside.end in
    let at = c.place_for-at.result in
    let more = c.max-self-inside.result in
    let nothing = g.T.Forgettable.nothing in
    let t : Slot g.row.T.Denot = record
    { number = c.args.number; thing = c.nothing-thing.result } in
    let none = absent_from slots c.args.number
    (subst (λ w. IsInWindow w c.args.number → ⊥) (sym c.self.view_is) c.requires.apart) in
    ap (λ l. get_or (list_of nothing l more) j nothing) c.in-Ok.ensures.items
    ∙ (insert_same t nothing slots end more at j c.self.invariant.ascending
    (subst (λ l. AreAscending 0 l more) c.in-Ok.ensures.items (invariant_of-self g c).ascending)
    c.nothing-thing.ensures none
    ∙ ap (λ w. get_or w.list j nothing) c.self.view_is)

pub returns-clause-reached : goal.returns-clause-reached
returns-clause-reached g c =
    let slots = c.self.inside.slots.items in
    let end = c.self.inside.end in
    let at = c.place_for-at.result in
    let more = c.max-self-inside.result in
    let nothing = g.T.Forgettable.nothing in
    let t : Slot g.row.T.Denot = record
    { number = c.args.number; thing = c.nothing-thing.result } in
    let within = subst (λ l. at ≤ length l) c.deref.ensures.value c.place_for-at.ensures.within in
    let long = insert_long t slots at within in
    let old = number_long slots in
    let new = number_long c.insert.new.self.items in
    let items = ap (λ l. length l) c.in-Ok.ensures.items in
    let was = list_long nothing slots end in
    let is = list_long nothing c.insert.new.self.items more in
    let most = c.max-self-inside.ensures in
    rw (← c.self.view_is) (record {
      kept = λ n. subst (λ l. Contains (numbers_of l) n
          ↔ (Contains (numbers_of slots) n ⊎ (n ≡ c.args.number))) (sym c.in-Ok.ensures.items)
          (insert_kept t slots at n);
      one = omega (arith, long, old, new, items);
      end = omega (arith, was, is, most);
    })
