use Rattle.std.proofs.Common.{◌≡◌, ◌-◌, subst, sym, ap, ◌∙◌, refl, inr, arith, set, length}
use Rattle.std.proofs.lemmas.List.{length-set}
use Rattle.hall_core.specs.declared.slots.Slot.{Slot}
use Rattle.hall_core.specs.Slots.{IsAt, IsAbsent, numbers_of, list_of}
use Rattle.hall_core.specs.Windows.{with_thing}
use Rattle.hall_core.proofs.SlotLemmas.{in_list, is_kept, kept_there, none_there, not_kept}
use Rattle.hall_core.proofs.SlotLemmas.{rising}
use Rattle.hall_core.proofs.SlotEditLemmas.{ends_alike, set_held, set_list, set_numbers}
use Rattle.hall_core.proofs.SlotEditLemmas.{set_up}
use Rattle.hall_core.proofs.window.Window.get_mut.Goals as goal

pub place_of-requires : goal.place_of-requires
place_of-requires g c =
    rw c.deref.ensures.value
    (rising 0 c.self.inside.slots.items c.self.inside.end c.self.invariant.ascending)

pub returns-in_default : goal.returns-in_default
returns-in_default g c =
    let none = subst (λ l. IsAbsent c.args.number l) c.deref.ensures.value
    c.in_default.ensures.none in (
      λ i. inr (c.self.view_is i),
      record {
        writes_back = tt;
        kept = (
          λ e. absurd (cc),
          rw (← c.self.view_is)
              (λ w. absurd (not_kept c.self.inside.slots.items c.args.number none w)),
        );
        within = λ e. absurd (cc);
        value = tt;
        none = rw (← c.self.view_is) (sym (none_there g.T.Forgettable.nothing
            c.self.inside.slots.items c.self.inside.end c.args.number c.self.invariant.ascending
            none));
      },
    )

pub invariant_of-self-lent : goal.invariant_of-self-lent
invariant_of-self-lent g c w =
    let slots = c.self.inside.slots.items in
    let at = c.in-Some.at in
    let here = subst (λ l. IsAt c.args.number l at) c.deref.ensures.value c.in-Some.ensures.at in
    let number : c.index_mut-slot.result.now.number ≡ c.args.number =
    ap (λ s. s.number) c.index_mut-slot.ensures.value ∙ here.1 c.index_mut-slot.result.now in
    let t : Slot g.row.T.Denot = record {
      number = c.index_mut-slot.result.now.number;
      thing = w;
    } in
    let is = subst (λ n. IsAt n slots at) (sym number) here in
    let held = set_held t (λ s. g.T.Forgettable.is_left s.thing) slots at in
    let long = length-set slots at t in
    let was = c.self.invariant.held in
    let lent = c.self.invariant.lent in
    let most = c.min-self-inside.ensures in
    let number_is = c.len.ensures in
    record {
      few = c.self.invariant.few;
      ascending = set_up t 0 slots c.self.inside.end at is c.self.invariant.ascending;
      lent = omega (arith, most, number_is, long, lent);
      held = omega (arith, most, number_is, long, held, was, lent);
    }

pub returns : goal.returns
returns g c =
    let slots = c.self.inside.slots.items in
    let end = c.self.inside.end in
    let at = c.in-Some.at in
    let nothing = g.T.Forgettable.nothing in
    let here = subst (λ l. IsAt c.args.number l at) c.deref.ensures.value c.in-Some.ensures.at in
    let number : c.index_mut-slot.result.now.number ≡ c.args.number =
    ap (λ s. s.number) c.index_mut-slot.ensures.value ∙ here.1 c.index_mut-slot.result.now in
    let t : g.row.T.Denot → Slot g.row.T.Denot = (λ w. record {
      number = c.index_mut-slot.result.now.number;
      thing = w;
    }) in
    let is = subst (λ n. IsAt n slots at) (sym number) here in
    let room = c.self.inside.slots.cap - length slots in
    let written : (w : _) → record {
      numbers = numbers_of (set slots at (t w));
      list = list_of nothing (set slots at (t w)) end;
      room = c.self.inside.slots.cap - length (set slots at (t w));
    } ≡ with_thing c.args.self.now c.args.number w = (λ w.
    (λ i. record {
      numbers = set_numbers (t w) slots at is i;
      list = (set_list (t w) nothing slots end at c.self.invariant.ascending is
          ∙ ap (λ n. set (list_of nothing slots end) n w) number) i;
      room = c.self.inside.slots.cap - length-set slots at (t w) i;
    })
    ∙ ap (λ v. with_thing v c.args.number w) c.self.view_is) in (
      ends_alike _ _ _ written,
      record {
        writes_back = tt;
        kept = rw (← c.self.view_is)
            (λ e. is_kept slots c.args.number at here, λ w. refl);
        within = rw (← c.self.view_is) (λ e. in_list nothing slots end c.args.number at
            c.self.invariant.ascending here);
        value = rw (← c.self.view_is) (ap (λ s. s.thing) c.index_mut-slot.ensures.value
            ∙ kept_there nothing slots end c.args.number at c.index_mut-slot.result.now
            c.self.invariant.ascending here);
        none = tt;
      },
    )
