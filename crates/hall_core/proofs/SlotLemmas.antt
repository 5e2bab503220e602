-- Things with ascending numbers, and the list that they stand for.
use Rattle.std.proofs.Common.{◌≡◌, ◌≢◌, ℕ, zero, suc, ◌+◌, ◌<◌, ◌≤◌}
use Rattle.std.proofs.Common.{List, [], ◌∷◌, length}
use Rattle.std.proofs.Common.{refl, sym, ap, ◌∙◌, arith, get_or, ⊎_elim, eq-eqb, ne_eqb}
use Rattle.std.specs.Prelude.{◌==◌, Contains}
use Rattle.std.specs.List.Sorted.{IsNonDecreasingBy, IsPartitionPoint}
use Rattle.std.proofs.lemmas.Bool.{cases_Bool, cond-true, cond-false, false≢true}
use Rattle.std.proofs.lemmas.List.{get_or_default}
use Rattle.std.proofs.lemmas.List.Elements.{All-head, All-tail}
use Rattle.hall_core.specs.declared.slots.Slot.{Slot}
use Rattle.hall_core.specs.Slots.{numbers_of, AreAscending, IsAt, IsAbsent, thing_of}
use Rattle.hall_core.specs.Slots.{list_of}
use Rattle.hall_core.proofs.NumberLemmas.{at_any, long}

-- ## ascending numbers

module _ {X : Type 0} where
  pub ends : (least : ℕ) (slots : List (Slot X)) (end : ℕ) → AreAscending least slots end → least ≤ end
  ends least [] end up = up
  ends least (s ∷ slots) end up =
      let rest = ends (s.number + 1) slots end up.1 in
      let low = up.0 in omega (arith, rest, low)

  pub lower : (least less : ℕ) (slots : List (Slot X)) (end : ℕ) → less ≤ least →
      AreAscending least slots end → AreAscending less slots end
  lower least less [] end low up = omega (arith, low, up)
  lower least less (s ∷ slots) end low up = let at = up.0 in (omega (arith, low, at), up.1)

  pub higher : (least : ℕ) (slots : List (Slot X)) (end more : ℕ) → end ≤ more →
      AreAscending least slots end → AreAscending least slots more
  higher least [] end more high up = omega (arith, high, up)
  higher least (s ∷ slots) end more high up = (up.0, higher (s.number + 1) slots end more high up.1)

  -- each of them is no less than the least, and below the end
  not_less : (least : ℕ) (slots : List (Slot X)) (end : ℕ) (k : ℕ) (d : Slot X) →
      AreAscending least slots end → k < length slots → least ≤ (get_or slots k d).number
  not_less least [] end k d up low = absurd (omega (arith, low))
  not_less least (s ∷ slots) end zero d up low = up.0
  not_less least (s ∷ slots) end (suc k) d up low =
      let at = up.0 in
      let rest = not_less (s.number + 1) slots end k d up.1 (omega (arith, low)) in
      omega (arith, at, rest)

  pub below : (least : ℕ) (slots : List (Slot X)) (end : ℕ) (k : ℕ) (d : Slot X) →
      AreAscending least slots end → k < length slots → (get_or slots k d).number < end
  below least [] end k d up low = absurd (omega (arith, low))
  below least (s ∷ slots) end zero d up low =
      let rest = ends (s.number + 1) slots end up.1 in omega (arith, rest)
  below least (s ∷ slots) end (suc k) d up low =
      below (s.number + 1) slots end k d up.1 (omega (arith, low))

  pub rising : (least : ℕ) (slots : List (Slot X)) (end : ℕ) → AreAscending least slots end →
      IsNonDecreasingBy (λ (s : Slot X). s.number) slots
  rising least [] end up i j d le low = absurd (omega (arith, low))
  rising least (s ∷ slots) end up zero zero d le low = omega arith
  rising least (s ∷ slots) end up zero (suc j) d le low =
      let rest = not_less (s.number + 1) slots end j d up.1 (omega (arith, low)) in
      omega (arith, rest)
  rising least (s ∷ slots) end up (suc i) zero d le low = absurd (omega (arith, le))
  rising least (s ∷ slots) end up (suc i) (suc j) d le low =
      rising (s.number + 1) slots end up.1 i j d (omega (arith, le)) (omega (arith, low))

  -- where it would stand, but does not, it is nowhere
  pub absent : (number : ℕ) (slots : List (Slot X)) (at : ℕ) →
      IsNonDecreasingBy (λ (s : Slot X). s.number) slots → at ≤ length slots →
      IsPartitionPoint (λ (s : Slot X). s.number < number) (λ (s : Slot X). number ≤ s.number)
      slots at → (IsAt number slots at → ⊥) → IsAbsent number slots
  absent number slots at up within point apart k d low e = ⊎_elim
      (λ (before : k < at). let less = point.0 k d (omega arith) before in omega (arith, less, e))
      (λ (behind : at ≤ k).
      let here : at < length slots = omega (arith, behind, low) in
      let least = point.1 at d (omega arith) here in
      let less = up at k d behind low in
      let is : (get_or slots at d).number ≡ number = omega (arith, least, less, e) in
      apart (here, λ b. ap (λ (s : Slot X). s.number) (get_or_default slots at b d here) ∙ is))
      (Rattle.std.proofs.lemmas.Bool.cases_lt k at)

-- ## what has a number

module _ {X : Type 0} (nothing : X) where
  pub thing_at : (least : ℕ) (slots : List (Slot X)) (end number at : ℕ) (d : Slot X) →
      AreAscending least slots end → IsAt number slots at →
      thing_of nothing slots number ≡ (get_or slots at d).thing
  thing_at least [] end number at d up is = absurd (let low = is.0 in omega (arith, low))
  thing_at least (s ∷ slots) end number zero d up is =
      cond-true (s.number == number) s.thing (thing_of nothing slots number)
      (eq-eqb s.number number (is.1 d))
  thing_at least (s ∷ slots) end number (suc at) d up is =
      let low = is.0 in
      let more = not_less (s.number + 1) slots end at d up.1 (omega (arith, low)) in
      let at_it = is.1 d in
      cond-false (s.number == number) s.thing (thing_of nothing slots number)
      (ne_eqb s.number number (λ e. omega (arith, e, more, at_it)))
      ∙ thing_at (s.number + 1) slots end number at d up.1 (omega (arith, low), λ b. is.1 b)

  pub none_at : (slots : List (Slot X)) (number : ℕ) → IsAbsent number slots →
      thing_of nothing slots number ≡ nothing
  none_at [] number none = refl
  none_at (s ∷ slots) number none =
      cond-false (s.number == number) s.thing (thing_of nothing slots number)
      (ne_eqb s.number number (All-head (λ (t : Slot X). t.number ≢ number) s slots none))
      ∙ none_at slots number (All-tail (λ (t : Slot X). t.number ≢ number) s slots none)

  -- nothing is below the least, and nothing past the end
  pub none_below : (least : ℕ) (slots : List (Slot X)) (end number : ℕ) →
      AreAscending least slots end → number < least → thing_of nothing slots number ≡ nothing
  none_below least slots end number up low = none_at slots number (λ k d within e.
      let more = not_less least slots end k d up within in omega (arith, more, low, e))

  pub none_past : (least : ℕ) (slots : List (Slot X)) (end number : ℕ) →
      AreAscending least slots end → end ≤ number → thing_of nothing slots number ≡ nothing
  none_past least slots end number up past = none_at slots number (λ k d within e.
      let less = below least slots end k d up within in omega (arith, less, past, e))

  -- ## in the list

  pub list_is : (slots : List (Slot X)) (end j : ℕ) → AreAscending 0 slots end →
      get_or (list_of nothing slots end) j nothing ≡ thing_of nothing slots j
  list_is slots end j up = at_any (thing_of nothing slots) end j nothing
      (λ i past. none_past 0 slots end i up past)

  pub list_long : (slots : List (Slot X)) (end : ℕ) → length (list_of nothing slots end) ≡ end
  list_long slots end = long (thing_of nothing slots) 0 end

  pub kept_there : (slots : List (Slot X)) (end number at : ℕ) (d : Slot X) →
      AreAscending 0 slots end → IsAt number slots at →
      (get_or slots at d).thing ≡ get_or (list_of nothing slots end) number nothing
  kept_there slots end number at d up is =
      sym (list_is slots end number up ∙ thing_at 0 slots end number at d up is)

  pub none_there : (slots : List (Slot X)) (end number : ℕ) →
      AreAscending 0 slots end → IsAbsent number slots →
      nothing ≡ get_or (list_of nothing slots end) number nothing
  none_there slots end number up none =
      sym (list_is slots end number up ∙ none_at slots number none)

-- ## numbers that are kept

module _ {X : Type 0} where
  pub number_long : (slots : List (Slot X)) → length (numbers_of slots) ≡ length slots
  number_long [] = refl
  number_long (s ∷ slots) = ap suc (number_long slots)

  contained_from : (slots : List (Slot X)) (number k : ℕ) → k < length (numbers_of slots) →
      get_or (numbers_of slots) k number ≡ number → IsAbsent number slots → ⊥
  contained_from [] number k low e none = absurd (omega (arith, low))
  contained_from (s ∷ slots) number zero low e none =
      All-head (λ (t : Slot X). t.number ≢ number) s slots none e
  contained_from (s ∷ slots) number (suc k) low e none =
      contained_from slots number k (omega (arith, low)) e
      (All-tail (λ (t : Slot X). t.number ≢ number) s slots none)

  -- one that is absent is not kept
  pub not_kept : (slots : List (Slot X)) (number : ℕ) → IsAbsent number slots →
      Contains (numbers_of slots) number → ⊥
  not_kept slots number none w = contained_from slots number w.0 w.1 w.2 none

  kept_from : (slots : List (Slot X)) (number at : ℕ) → IsAt number slots at →
      (at < length (numbers_of slots)) × (get_or (numbers_of slots) at number ≡ number)
  kept_from [] number at is = absurd (let low = is.0 in omega (arith, low))
  kept_from (s ∷ slots) number zero is = (omega arith, is.1 s)
  kept_from (s ∷ slots) number (suc at) is =
      let low = is.0 in
      let rest = kept_from slots number at (omega (arith, low), λ d. is.1 d) in
      let within = rest.0 in (omega (arith, within), rest.1)

  pub is_kept : (slots : List (Slot X)) (number at : ℕ) → IsAt number slots at →
      Contains (numbers_of slots) number
  is_kept slots number at is = let w = kept_from slots number at is in (at, w.0, w.1)

  pub absent_from : (slots : List (Slot X)) (number : ℕ) →
      (Contains (numbers_of slots) number → ⊥) → IsAbsent number slots
  absent_from slots number none k d low e = none (is_kept slots number k
      (low, λ b. ap (λ (s : Slot X). s.number) (get_or_default slots k b d low) ∙ e))

  pub in_list : (nothing : X) (slots : List (Slot X)) (end number at : ℕ) →
      AreAscending 0 slots end → IsAt number slots at →
      number < length (list_of nothing slots end)
  in_list nothing slots end number at up is =
      let d : Slot X = record { number = number; thing = nothing } in
      let less = below 0 slots end at d up is.0 in
      let e = is.1 d in
      let all = list_long nothing slots end in
      omega (arith, less, e, all)
