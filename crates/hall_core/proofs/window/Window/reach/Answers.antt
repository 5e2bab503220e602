use Rattle.std.proofs.Common.{subst, inr, refl}
use Rattle.hall_core.specs.Slots.{IsAt, IsAbsent}
use Rattle.hall_core.proofs.SlotLemmas.{in_list, is_kept, not_kept, rising}
use Rattle.hall_core.proofs.LeftLemmas.{reached_from, reached_there}
use Rattle.hall_core.proofs.window.Window.reach.Goals as goal

pub place_of-requires : goal.place_of-requires
place_of-requires g c =
    rw c.deref.ensures.value
    (rising 0 c.self.inside.slots.items c.self.inside.end c.self.invariant.ascending)

pub returns-in-Some-clause-kept : goal.returns-in-Some-clause-kept
returns-in-Some-clause-kept g c =
    let slots = c.self.inside.slots.items in
    let at = c.in-Some.field-0 in
    let here = subst (λ l. IsAt c.args.number l at) c.deref.ensures.value c.in-Some.ensures.at in
    rw (← c.self.view_is) (is_kept slots c.args.number at here)

pub returns-in-Some-clause-reached : goal.returns-in-Some-clause-reached
returns-in-Some-clause-reached g c =
    let slots = c.self.inside.slots.items in
    let at = c.in-Some.field-0 in
    let here = subst (λ l. IsAt c.args.number l at) c.deref.ensures.value c.in-Some.ensures.at in
    rw (← c.self.view_is) (reached_there _ c.args.number (is_kept slots c.args.number at here)
    (in_list g.T.Forgettable.nothing slots c.self.inside.end c.args.number at
    c.self.invariant.ascending here))

pub returns-in-Some-clause-doubles : goal.returns-in-Some-clause-doubles
returns-in-Some-clause-doubles g c = λ none apart. absurd (apart (returns-in-Some-clause-kept g c))

pub add-requires-clause-apart : goal.add-requires-clause-apart
add-requires-clause-apart g c =
    let slots = c.self.inside.slots.items in
    let none = subst (λ l. IsAbsent c.args.number l) c.deref.ensures.value c.in-None.ensures.none in
    rw c.reserve.ensures.numbers
    (rw (← c.self.view_is) (λ w. not_kept slots c.args.number none w))

pub returns-in_err-reserve-in-None-clause-there : goal.returns-in_err-reserve-in-None-clause-there
returns-in_err-reserve-in-None-clause-there g c =
    let slots = c.self.inside.slots.items in
    let none = subst (λ l. IsAbsent c.args.number l) c.deref.ensures.value c.in-None.ensures.none in
    rw (← c.self.view_is) (λ w. absurd (not_kept slots c.args.number none w))

pub returns-in_ok-reserve-in-None-clause-reached : goal.returns-in_ok-reserve-in-None-clause-reached
returns-in_ok-reserve-in-None-clause-reached g c =
    reached_from c.args.self.now c.reserve.new.self c.add.new.self c.args.number
    c.reserve.ensures.numbers c.reserve.ensures.list c.add.ensures.reached

pub returns-in_ok-reserve-in-None-clause-kept : goal.returns-in_ok-reserve-in-None-clause-kept
returns-in_ok-reserve-in-None-clause-kept g c =
    (c.add.ensures.reached.kept c.args.number).1 (inr refl)
