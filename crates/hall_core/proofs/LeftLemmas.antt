-- What a window keeps of things of which something is left, and what it has reached.
use Rattle.std.proofs.Common.{◌≡◌, ◌≢◌, ℕ, zero, suc, ◌+◌, ◌<◌, ◌⊎◌, inl, max}
use Rattle.std.proofs.Common.{Bool, true, false, cond, List, [], ◌∷◌, length}
use Rattle.std.proofs.Common.{◌↔◌, refl, sym, ap, ◌∙◌, subst, arith, ⊎_elim, eqb-true, eq-eqb, ne_eqb}
use Rattle.std.specs.Prelude.{◌==◌, Contains, count_by, filter}
use Rattle.std.proofs.lemmas.Bool.{cases_Bool, cond-true, cond-false, false≢true}
use Rattle.hall_core.specs.declared.slots.Slot.{Slot}
use Rattle.hall_core.specs.Slots.{AreAscending, thing_of, by_number}
use Rattle.hall_core.specs.Slots.{list_of}
use Rattle.hall_core.specs.Windows.{Windowed, HasReached, IsInWindow}
use Rattle.hall_core.proofs.NumberLemmas.{alike}
use Rattle.hall_core.proofs.SlotLemmas.{ends, lower, none_below}
use Rattle.hall_core.proofs.SlotEditLemmas.{count_cons}

-- ## those of which something is left

module _ {X : Type 0} (nothing : X) (p : X → Bool) (none : p nothing ≡ false)
    (only : (x : X) → p x ≡ false → x ≡ nothing) where
  abbrev left : Slot X → Bool
  left s = p s.thing

  pub filter_up : (least : ℕ) (slots : List (Slot X)) (end : ℕ) → AreAscending least slots end →
      AreAscending least (filter left slots) end
  filter_up least [] end up = up
  filter_up least (s ∷ slots) end up =
      go (left s) (filter_up (s.number + 1) slots end up.1)
    where
      go : (b : Bool) → AreAscending (s.number + 1) (filter left slots) end →
          AreAscending least (cond b (s ∷ filter left slots) (filter left slots)) end
      go true rest = (up.0, rest)
      go false rest =
          let low = up.0 in
          lower (s.number + 1) least (filter left slots) end (omega (arith, low)) rest

  filter_thing : (least : ℕ) (slots : List (Slot X)) (end i : ℕ) → AreAscending least slots end →
      thing_of nothing (filter left slots) i ≡ thing_of nothing slots i
  filter_thing least [] end i up = refl
  filter_thing least (s ∷ slots) end i up =
      go (left s) refl (filter_thing (s.number + 1) slots end i up.1)
    where
      go : (b : Bool) → left s ≡ b →
          thing_of nothing (filter left slots) i ≡ thing_of nothing slots i →
          thing_of nothing (cond b (s ∷ filter left slots) (filter left slots)) i
          ≡ thing_of nothing (s ∷ slots) i
      go true is rest = ap (λ x. cond (s.number == i) s.thing x) rest
      go false is rest = ⊎_elim
          (λ yes.
          let e = eqb-true s.number i yes in
          rest
          ∙ (none_below nothing (s.number + 1) slots end i up.1 (omega (arith, e))
          ∙ (sym (only s.thing is)
          ∙ sym (cond-true (s.number == i) s.thing (thing_of nothing slots i) yes))))
          (λ no. rest ∙ sym (cond-false (s.number == i) s.thing (thing_of nothing slots i) no))
          (cases_Bool (s.number == i))

  pub filter_list : (slots : List (Slot X)) (end : ℕ) → AreAscending 0 slots end →
      list_of nothing (filter left slots) end ≡ list_of nothing slots end
  filter_list slots end up = alike (thing_of nothing (filter left slots)) (thing_of nothing slots)
      0 end (λ i low high. filter_thing 0 slots end i up)

  pub filter_held : (slots : List (Slot X)) →
      count_by left (filter left slots) ≡ length (filter left slots)
  filter_held [] = refl
  filter_held (s ∷ slots) = go (left s) refl (filter_held slots)
    where
      go : (b : Bool) → left s ≡ b →
          count_by left (filter left slots) ≡ length (filter left slots) →
          count_by left (cond b (s ∷ filter left slots) (filter left slots))
          ≡ length (cond b (s ∷ filter left slots) (filter left slots))
      go true is rest =
          let new = count_cons left s (filter left slots) in
          let one = ap (λ b. cond {A = ℕ} b 1 0) is in
          omega (arith, rest, new, one)
      go false is rest = rest

  -- as many are left in the list
  counted_from : (first : ℕ) (slots : List (Slot X)) (n : ℕ) →
      AreAscending first slots (first + n) →
      count_by p (by_number (thing_of nothing slots) first n) ≡ count_by left slots
  counted_from first [] zero up = refl
  counted_from first (s ∷ slots) zero up =
      let rest = ends (s.number + 1) slots (first + zero) up.1 in
      let low = up.0 in absurd (omega (arith, rest, low))
  counted_from first [] (suc n) up =
      let rest = counted_from (first + 1) [] n (omega arith) in
      let new = count_cons p nothing (by_number (thing_of nothing []) (first + 1) n) in
      let zero_is = ap (λ b. cond {A = ℕ} b 1 0) none in
      omega (arith, rest, new, zero_is)
  counted_from first (s ∷ slots) (suc n) up =
      let on : first + suc n ≡ first + 1 + n = omega arith in
      let low = up.0 in
      ⊎_elim
      (λ yes.
      let e = eqb-true s.number first yes in
      let after : AreAscending (first + 1) slots (first + 1 + n) =
      subst (λ m. AreAscending (first + 1) slots m) on
      (subst (λ m. AreAscending (m + 1) slots (first + suc n)) e up.1) in
      let rest = counted_from (first + 1) slots n after in
      let same = ap (count_by p)
      (alike (thing_of nothing (s ∷ slots)) (thing_of nothing slots) (first + 1) n
      (λ j above under. cond-false (s.number == j) s.thing (thing_of nothing slots j)
      (ne_eqb s.number j (λ is. omega (arith, is, e, above))))) in
      let head = ap (λ x. cond {A = ℕ} (p x) 1 0)
      (cond-true (s.number == first) s.thing (thing_of nothing slots first) yes) in
      let new = count_cons p (thing_of nothing (s ∷ slots) first)
      (by_number (thing_of nothing (s ∷ slots)) (first + 1) n) in
      let old = count_cons left s slots in
      omega (arith, rest, same, head, new, old))
      (λ no.
      let apart : s.number ≢ first =
      (λ is. false≢true (sym no ∙ eq-eqb s.number first is)) in
      let after : AreAscending (first + 1) (s ∷ slots) (first + 1 + n) =
      subst (λ m. AreAscending (first + 1) (s ∷ slots) m) on
      (omega (arith, low, apart), up.1) in
      let rest = counted_from (first + 1) (s ∷ slots) n after in
      let head = ap (λ x. cond {A = ℕ} (p x) 1 0)
      (none_below nothing (first + 1) (s ∷ slots) (first + 1 + n) first after (omega arith)) in
      let zero_is = ap (λ b. cond {A = ℕ} b 1 0) none in
      let new = count_cons p (thing_of nothing (s ∷ slots) first)
      (by_number (thing_of nothing (s ∷ slots)) (first + 1) n) in
      omega (arith, rest, head, zero_is, new))
      (cases_Bool (s.number == first))

  pub counted : (slots : List (Slot X)) (end : ℕ) → AreAscending 0 slots end →
      count_by p (list_of nothing slots end) ≡ count_by left slots
  counted slots end up =
      let e : end ≡ 0 + end = omega arith in
      counted_from 0 slots end (subst (λ m. AreAscending 0 slots m) e up)

-- ## what is reached

module _ {X : Type 0} where
  -- where it is kept already
  pub reached_there : (w : Windowed X) (number : ℕ) → IsInWindow w number →
      number < length w.list → HasReached w w number
  reached_there w number is low = record {
    kept = λ n. (
      λ k. inl k,
      λ k. ⊎_elim (λ (old : IsInWindow w n). old)
          (λ (e : n ≡ number). subst (λ m. IsInWindow w m) (sym e) is) k,
    );
    one = omega arith;
    end = omega (arith, low);
  }

  -- from a window that keeps the same
  pub reached_from : (old mid new : Windowed X) (number : ℕ) → mid.numbers ≡ old.numbers →
      mid.list ≡ old.list → HasReached mid new number → HasReached old new number
  reached_from old mid new number numbers list reached =
      let one = reached.one in
      let same = ap (λ (ns : List ℕ). length ns) numbers in
      record {
        kept = λ n. subst (λ (ns : List ℕ). IsInWindow new n ↔ (Contains ns n ⊎ (n ≡ number)))
            numbers (reached.kept n);
        one = omega (arith, one, same);
        end = reached.end ∙ ap (λ (l : List X). max (length l) (number + 1)) list;
      }
