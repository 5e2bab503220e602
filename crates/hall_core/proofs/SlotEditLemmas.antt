-- Things with ascending numbers of which one changes, or one comes.
use Rattle.std.proofs.Common.{◌≡◌, ◌≢◌, ℕ, zero, suc, ◌+◌, ◌<◌, ◌≤◌, ◌⊎◌, inl, inr}
use Rattle.std.proofs.Common.{Bool, true, false, cond, List, [], ◌∷◌, ◌++◌, length, set, take, drop}
use Rattle.std.proofs.Common.{◌↔◌, refl, sym, ap, ◌∙◌, subst, arith, get_or, ⊎_elim, eqb-true, eq-eqb, ne_eqb}
use Rattle.std.specs.Prelude.{◌==◌, Contains, count_by, insert}
use Rattle.std.specs.List.Sorted.{IsPartitionPoint}
use Rattle.std.proofs.lemmas.Bool.{cases_Bool, cond-true, cond-false}
use Rattle.std.proofs.lemmas.List.{map-append}
use Rattle.std.proofs.lemmas.List.Elements.{All-head, All-tail}
use Rattle.std.proofs.lemmas.List.Elements.{Contains-append_left, Contains-append_right}
use Rattle.std.proofs.lemmas.List.Elements.{Contains-append_cases}
use Rattle.std.proofs.lemmas.List.Sums.{sum_by-cons}
use Rattle.std.proofs.Common.{take-append-drop}
use Rattle.hall_core.specs.declared.slots.Slot.{Slot}
use Rattle.hall_core.specs.Slots.{numbers_of, AreAscending, IsAt, IsAbsent, thing_of, by_number}
use Rattle.hall_core.specs.Slots.{list_of}
use Rattle.hall_core.proofs.NumberLemmas.{alike, but_one, one_more}
use Rattle.hall_core.proofs.SlotLemmas.{below, higher, list_is, none_at}
use Rattle.hall_core.proofs.SlotLemmas.{thing_at}

-- ## another thing with the same number

-- what a lender ends as, by the same name
pub ends_alike : {N A B C : Type 0} (name : N) (F G : A → B) → ((w : A) → F w ≡ G w) →
    ◌≡◌ {A = (N × (A → B)) ⊎ C} (inl (name, F)) (inl (name, G))
ends_alike name F G same = λ i. inl (name, λ w. same w i)

pub count_cons : {X : Type 0} (p : X → Bool) (x : X) (xs : List X) →
    count_by p (x ∷ xs) ≡ cond {A = ℕ} (p x) 1 0 + count_by p xs
count_cons p x xs = sum_by-cons (λ y. cond (p y) 1 0) x xs

at_most_one : (b : Bool) → cond {A = ℕ} b 1 0 ≤ 1
at_most_one true = omega arith
at_most_one false = omega arith

module _ {X : Type 0} (t : Slot X) where
  pub set_numbers : (slots : List (Slot X)) (at : ℕ) → IsAt t.number slots at →
      numbers_of (set slots at t) ≡ numbers_of slots
  set_numbers [] at is = refl
  set_numbers (s ∷ slots) zero is = ap (λ n. n ∷ numbers_of slots) (sym (is.1 s))
  set_numbers (s ∷ slots) (suc at) is =
      let low = is.0 in
      ap (λ ns. s.number ∷ ns) (set_numbers slots at (omega (arith, low), λ d. is.1 d))

  pub set_up : (least : ℕ) (slots : List (Slot X)) (end at : ℕ) → IsAt t.number slots at →
      AreAscending least slots end → AreAscending least (set slots at t) end
  set_up least [] end at is up = up
  set_up least (s ∷ slots) end zero is up =
      let same = is.1 s in
      let low = up.0 in
      (omega (arith, same, low), subst (λ n. AreAscending (n + 1) slots end) same up.1)
  set_up least (s ∷ slots) end (suc at) is up =
      let low = is.0 in
      (up.0, set_up (s.number + 1) slots end at (omega (arith, low), λ d. is.1 d) up.1)

  pub set_held : (p : Slot X → Bool) (slots : List (Slot X)) (at : ℕ) →
      count_by p slots ≤ count_by p (set slots at t) + 1
  set_held p [] at = omega arith
  set_held p (s ∷ slots) zero =
      let one = at_most_one (p s) in
      let old = count_cons p s slots in
      let new = count_cons p t slots in
      omega (arith, one, old, new)
  set_held p (s ∷ slots) (suc at) =
      let rest = set_held p slots at in
      let old = count_cons p s slots in
      let new = count_cons p s (set slots at t) in
      omega (arith, rest, old, new)

  set_at : (slots : List (Slot X)) (at : ℕ) → IsAt t.number slots at →
      IsAt t.number (set slots at t) at × ((d : Slot X) → get_or (set slots at t) at d ≡ t)
  set_at [] at is = absurd (let low = is.0 in omega (arith, low))
  set_at (s ∷ slots) zero is = ((omega arith, λ d. refl), λ d. refl)
  set_at (s ∷ slots) (suc at) is =
      let low = is.0 in
      let rest = set_at slots at (omega (arith, low), λ d. is.1 d) in
      let within = rest.0.0 in
      ((omega (arith, within), λ d. rest.0.1 d), λ d. rest.1 d)

  other_thing : (nothing : X) (slots : List (Slot X)) (at i : ℕ) → IsAt t.number slots at →
      i ≢ t.number → thing_of nothing (set slots at t) i ≡ thing_of nothing slots i
  other_thing nothing [] at i is apart = refl
  other_thing nothing (s ∷ slots) zero i is apart =
      cond-false (t.number == i) t.thing (thing_of nothing slots i)
      (ne_eqb t.number i (λ e. apart (sym e)))
      ∙ sym (cond-false (s.number == i) s.thing (thing_of nothing slots i)
      (ne_eqb s.number i (λ e. apart (sym e ∙ is.1 s))))
  other_thing nothing (s ∷ slots) (suc at) i is apart =
      let low = is.0 in
      ap (λ x. cond (s.number == i) s.thing x)
      (other_thing nothing slots at i (omega (arith, low), λ d. is.1 d) apart)

  pub set_list : (nothing : X) (slots : List (Slot X)) (end at : ℕ) → AreAscending 0 slots end →
      IsAt t.number slots at →
      list_of nothing (set slots at t) end ≡ set (list_of nothing slots end) t.number t.thing
  set_list nothing slots end at up is =
      let new = set slots at t in
      let there = set_at slots at is in
      let e : 0 + t.number ≡ t.number = omega arith in
      but_one (thing_of nothing slots) (thing_of nothing new) 0 end t.number t.thing
      (ap (thing_of nothing new) e
      ∙ (thing_at nothing 0 new end t.number at t (set_up 0 slots end at is up) there.0
      ∙ ap (λ (s : Slot X). s.thing) (there.1 t)))
      (λ i apart. other_thing nothing slots at i is (λ is_it. apart (is_it ∙ sym e)))

-- ## one more in its place

the_one : (m n : ℕ) → Contains (m ∷ []) n → n ≡ m
the_one m n w = go w.0 w.1 w.2
  where
    go : (k : ℕ) → k < 1 → get_or (m ∷ []) k n ≡ n → n ≡ m
    go zero low e = sym e
    go (suc k) low e = absurd (omega (arith, low))

module _ (front back : List ℕ) (m n : ℕ) where
  pub between_kept : Contains (front ++ m ∷ back) n → Contains (front ++ back) n ⊎ (n ≡ m)
  between_kept w = ⊎_elim
      (λ left. inl (Contains-append_left front back n left))
      (λ right. ⊎_elim
      (λ one. inr (the_one m n one))
      (λ rest. inl (Contains-append_right front back n rest))
      (Contains-append_cases (m ∷ []) back n right))
      (Contains-append_cases front (m ∷ back) n w)

  pub kept_between : Contains (front ++ back) n ⊎ (n ≡ m) → Contains (front ++ m ∷ back) n
  kept_between (inl w) = ⊎_elim
      (λ left. Contains-append_left front (m ∷ back) n left)
      (λ right. Contains-append_right front (m ∷ back) n
      (Contains-append_right (m ∷ []) back n right))
      (Contains-append_cases front back n w)
  kept_between (inr e) = Contains-append_right front (m ∷ back) n
      (Contains-append_left (m ∷ []) back n (0, omega arith, sym e))

module _ {X : Type 0} (t : Slot X) where
  pub insert_up : (least : ℕ) (slots : List (Slot X)) (end more at : ℕ) →
      AreAscending least slots end → end ≤ more → t.number < more → least ≤ t.number →
      IsPartitionPoint (λ (s : Slot X). s.number < t.number) (λ (s : Slot X). t.number ≤ s.number)
      slots at → at ≤ length slots → IsAbsent t.number slots →
      AreAscending least (insert slots at t) more
  insert_up least [] end more zero up on high low point within none =
      (low, omega (arith, high))
  insert_up least [] end more (suc at) up on high low point within none =
      absurd (omega (arith, within))
  insert_up least (s ∷ slots) end more zero up on high low point within none =
      let above = point.1 0 s (omega arith) (omega arith) in
      let apart = All-head (λ (u : Slot X). u.number ≢ t.number) s slots none in
      (low, (omega (arith, above, apart), higher (s.number + 1) slots end more on up.1))
  insert_up least (s ∷ slots) end more (suc at) up on high low point within none =
      let under = point.0 0 s (omega arith) (omega arith) in (
        up.0,
        insert_up (s.number + 1) slots end more at up.1 on high (omega (arith, under)) (
          λ k d first last. point.0 (suc k) d (omega arith) (omega (arith, last)),
          λ k d first last. point.1 (suc k) d (omega (arith, first)) (omega (arith, last)),
        )
            (omega (arith, within)) (All-tail (λ (u : Slot X). u.number ≢ t.number) s slots none),
      )

  in_front : (nothing : X) (slots : List (Slot X)) (i : ℕ) → t.thing ≡ nothing →
      IsAbsent t.number slots → thing_of nothing (t ∷ slots) i ≡ thing_of nothing slots i
  in_front nothing slots i is none = ⊎_elim
      (λ yes. cond-true (t.number == i) t.thing (thing_of nothing slots i) yes
      ∙ (is ∙ sym (none_at nothing slots i
      (subst (λ n. IsAbsent n slots) (eqb-true t.number i yes) none))))
      (λ no. cond-false (t.number == i) t.thing (thing_of nothing slots i) no)
      (cases_Bool (t.number == i))

  insert_thing : (nothing : X) (slots : List (Slot X)) (at i : ℕ) → t.thing ≡ nothing →
      IsAbsent t.number slots →
      thing_of nothing (insert slots at t) i ≡ thing_of nothing slots i
  insert_thing nothing slots zero i is none = in_front nothing slots i is none
  insert_thing nothing [] (suc at) i is none = in_front nothing [] i is none
  insert_thing nothing (s ∷ slots) (suc at) i is none =
      ap (λ x. cond (s.number == i) s.thing x) (insert_thing nothing slots at i is
      (All-tail (λ (u : Slot X). u.number ≢ t.number) s slots none))

  pub insert_same : (nothing : X) (slots : List (Slot X)) (end more at j : ℕ) →
      AreAscending 0 slots end → AreAscending 0 (insert slots at t) more → t.thing ≡ nothing →
      IsAbsent t.number slots →
      get_or (list_of nothing (insert slots at t) more) j nothing
      ≡ get_or (list_of nothing slots end) j nothing
  insert_same nothing slots end more at j up new is none =
      list_is nothing (insert slots at t) more j new
      ∙ (insert_thing nothing slots at j is none ∙ sym (list_is nothing slots end j up))

  pub insert_held : (p : Slot X → Bool) (slots : List (Slot X)) (at : ℕ) →
      count_by p slots ≤ count_by p (insert slots at t)
  insert_held p slots zero = let new = count_cons p t slots in omega (arith, new)
  insert_held p [] (suc at) = omega arith
  insert_held p (s ∷ slots) (suc at) =
      let rest = insert_held p slots at in
      let old = count_cons p s slots in
      let new = count_cons p s (insert slots at t) in
      omega (arith, rest, old, new)

  pub insert_long : (slots : List (Slot X)) (at : ℕ) → at ≤ length slots →
      length (insert slots at t) ≡ length slots + 1
  insert_long slots zero within = omega arith
  insert_long [] (suc at) within = absurd (omega (arith, within))
  insert_long (s ∷ slots) (suc at) within =
      let rest = insert_long slots at (omega (arith, within)) in omega (arith, rest)

  insert_numbers : (slots : List (Slot X)) (at : ℕ) → numbers_of (insert slots at t)
      ≡ numbers_of (take at slots) ++ t.number ∷ numbers_of (drop at slots)
  insert_numbers slots at = map-append (λ (s : Slot X). s.number) (take at slots) (t ∷ drop at slots)

  numbers_apart : (slots : List (Slot X)) (at : ℕ) →
      numbers_of slots ≡ numbers_of (take at slots) ++ numbers_of (drop at slots)
  numbers_apart slots at =
      ap numbers_of (sym (take-append-drop at slots))
      ∙ map-append (λ (s : Slot X). s.number) (take at slots) (drop at slots)

  pub insert_kept : (slots : List (Slot X)) (at n : ℕ) →
      Contains (numbers_of (insert slots at t)) n ↔ (Contains (numbers_of slots) n ⊎ (n ≡ t.number))
  insert_kept slots at n =
      let front = numbers_of (take at slots) in
      let back = numbers_of (drop at slots) in (
        λ w. subst (λ (l : List ℕ). Contains l n ⊎ (n ≡ t.number)) (sym (numbers_apart slots at))
            (between_kept front back t.number n
            (subst (λ (l : List ℕ). Contains l n) (insert_numbers slots at) w)),
        λ w. subst (λ (l : List ℕ). Contains l n) (sym (insert_numbers slots at))
            (kept_between front back t.number n
            (subst (λ (l : List ℕ). Contains l n ⊎ (n ≡ t.number)) (numbers_apart slots at) w)),
      )

  -- ## one more at the end

  pub push_up : (least : ℕ) (slots : List (Slot X)) → AreAscending least slots t.number →
      AreAscending least (slots ++ t ∷ []) (t.number + 1)
  push_up least [] up = (up, omega arith)
  push_up least (s ∷ slots) up = (up.0, push_up (s.number + 1) slots up.1)

  push_other : (nothing : X) (slots : List (Slot X)) (i : ℕ) → i ≢ t.number →
      thing_of nothing (slots ++ t ∷ []) i ≡ thing_of nothing slots i
  push_other nothing [] i apart =
      cond-false (t.number == i) t.thing nothing (ne_eqb t.number i (λ e. apart (sym e)))
  push_other nothing (s ∷ slots) i apart =
      ap (λ x. cond (s.number == i) s.thing x) (push_other nothing slots i apart)

  push_at : (nothing : X) (slots : List (Slot X)) → IsAbsent t.number slots →
      thing_of nothing (slots ++ t ∷ []) t.number ≡ t.thing
  push_at nothing [] none =
      cond-true (t.number == t.number) t.thing nothing (eq-eqb t.number t.number refl)
  push_at nothing (s ∷ slots) none =
      cond-false (s.number == t.number) s.thing (thing_of nothing (slots ++ t ∷ []) t.number)
      (ne_eqb s.number t.number (All-head (λ (u : Slot X). u.number ≢ t.number) s slots none))
      ∙ push_at nothing slots (All-tail (λ (u : Slot X). u.number ≢ t.number) s slots none)

  pub push_list : (nothing : X) (slots : List (Slot X)) → AreAscending 0 slots t.number →
      list_of nothing (slots ++ t ∷ []) (t.number + 1)
      ≡ list_of nothing slots t.number ++ t.thing ∷ []
  push_list nothing slots up =
      let new = thing_of nothing (slots ++ t ∷ []) in
      let next : t.number + 1 ≡ suc t.number = omega arith in
      let e : 0 + t.number ≡ t.number = omega arith in
      let none : IsAbsent t.number slots = (λ k d within is.
      let less = below 0 slots t.number k d up within in omega (arith, less, is)) in
      ap (λ n. by_number new 0 n) next
      ∙ (one_more new 0 t.number
      ∙ (λ i. alike new (thing_of nothing slots) 0 t.number
      (λ j low high. push_other nothing slots j (λ is. omega (arith, is, high))) i
      ++ (ap new e ∙ push_at nothing slots none) i ∷ []))

  pub push_numbers : (slots : List (Slot X)) →
      numbers_of (slots ++ t ∷ []) ≡ numbers_of slots ++ t.number ∷ []
  push_numbers slots = map-append (λ (s : Slot X). s.number) slots (t ∷ [])

  pub push_held : (p : Slot X → Bool) (slots : List (Slot X)) → p t ≡ true →
      count_by p (slots ++ t ∷ []) ≡ count_by p slots + 1
  push_held p [] is =
      let new = count_cons p t [] in
      let one = ap (λ b. cond {A = ℕ} b 1 0) is in
      omega (arith, new, one)
  push_held p (s ∷ slots) is =
      let rest = push_held p slots is in
      let old = count_cons p s slots in
      let new = count_cons p s (slots ++ t ∷ []) in
      omega (arith, rest, old, new)
