-- Lists of process numbers, no two of them equal.
use Rattle.std.proofs.Common.{◌≡◌, ◌≢◌, ℕ, zero, suc, ◌<◌, ◌≤◌, ◌||◌, true, false, true≢false, Bool}
use Rattle.std.proofs.Common.{eqb, List, [], ◌∷◌, ◌++◌, length, refl, sym, ap, ◌∙◌, subst, ⊎_elim}
use Rattle.std.proofs.Common.{arith, eq-eqb, ne_eqb, eqb-true}
use mathlib.Core.Option.{some, some-injective, some-ne-none}
use lib.ListN.{get_elem?}
use Rattle.std.specs.List.{IsDistinct, AllByRecursion, list_any}
use Rattle.std.proofs.lemmas.Map.Keys.{IsDistinct-cons}
use Rattle.std.proofs.lemmas.Map.Steps.{length-le_from_distinct_below}
use Rattle.hall_turn.specs.Views.{Told, numbers_in}
use Rattle.hall_turn.proofs.AgreeLemmas.{at_both}

pub one_number : (p : ℕ) → IsDistinct eqb (p ∷ [])
unfolding IsDistinct
one_number p = (tt, tt)

-- a number apart from each of the list
pub apart_all : (p : ℕ) (ys : List ℕ)
    → ((i q : ℕ) → get_elem? ys i ≡ some q → p ≢ q)
    → AllByRecursion (λ y. eqb p y ≡ false) ys
apart_all p [] ne = tt
apart_all p (y ∷ ys) ne = (ne_eqb p y (ne 0 y refl), apart_all p ys (λ i q e. ne (suc i) q e))

apart_at : (p : ℕ) (ys : List ℕ) → AllByRecursion (λ y. eqb p y ≡ false) ys → (i q : ℕ) →
    get_elem? ys i ≡ some q → p ≢ q
apart_at p [] a i q e = absurd (some-ne-none q (sym e))
apart_at p (y ∷ ys) a zero q e =
    λ same. true≢false (sym (eq-eqb p y (same ∙ sym (some-injective y q e))) ∙ a.0)
apart_at p (y ∷ ys) a (suc i) q e = apart_at p ys a.1 i q e

distinct_append : (xs ys : List ℕ) → IsDistinct eqb xs → IsDistinct eqb ys →
    ((i j p q : ℕ) → get_elem? xs i ≡ some p → get_elem? ys j ≡ some q → p ≢ q) →
    IsDistinct eqb (xs ++ ys)
unfolding IsDistinct
distinct_append [] ys a b ne = b
distinct_append (x ∷ xs) ys a b ne = (
  apart_all x (xs ++ ys)
      (λ i q e.
      ⊎_elim
      (λ (l : (j : ℕ) × (get_elem? xs j ≡ some q)). apart_at x xs a.0 l.0 q l.1)
      (λ (r : (j : ℕ) × (get_elem? ys j ≡ some q)). ne 0 r.0 x q refl r.1)
      (at_both xs ys i q e)),
  distinct_append xs ys a.1 b (λ i j p q ex ey. ne (suc i) j p q ex ey),
)

pub numbers_append : (xs ys : List Told) → numbers_in (xs ++ ys) ≡ numbers_in xs ++ numbers_in ys
numbers_append [] ys = refl
numbers_append (x ∷ xs) ys = ap (λ l. x.process ∷ l) (numbers_append xs ys)

-- a list with a second one put in behind its first
pub distinct_joined : (t : Told) (xs ys : List Told) → IsDistinct eqb (numbers_in (t ∷ ys)) →
    IsDistinct eqb (numbers_in xs)
    → ((i j p q : ℕ) → get_elem? (numbers_in (t ∷ ys)) i ≡ some p →
    get_elem? (numbers_in xs) j ≡ some q → p ≢ q)
    → IsDistinct eqb (numbers_in (t ∷ (xs ++ ys)))
unfolding IsDistinct
distinct_joined t xs ys a b ne =
    subst (λ l. IsDistinct eqb (t.process ∷ l)) (sym (numbers_append xs ys)) (
      apart_all t.process (numbers_in xs ++ numbers_in ys)
          (λ i q e.
          ⊎_elim
          (λ (l : (j : ℕ) × (get_elem? (numbers_in xs) j ≡ some q)). ne 0 l.0 t.process q refl l.1)
          (λ (r : (j : ℕ) × (get_elem? (numbers_in ys) j ≡ some q)).
          apart_at t.process (numbers_in ys) a.0 r.0 q r.1)
          (at_both (numbers_in xs) (numbers_in ys) i q e)),
      distinct_append (numbers_in xs) (numbers_in ys) b a.1
          (λ i j p q ex ey same. ne (suc j) i q p ey ex (sym same)),
    )

abbrev pub Place : ℕ → List ℕ → Type 0
Place p xs = (i : ℕ) × (get_elem? xs i ≡ some p)

later : (p x : ℕ) (xs : List ℕ) → Place p xs → Place p (x ∷ xs)
later p x xs r = (suc r.0, r.1)

pub any_at : (p : ℕ) (xs : List ℕ) → list_any (eqb p) xs ≡ true → Place p xs
any_at p [] e = absurd (true≢false (sym e))
any_at p (x ∷ xs) e = by_head p x xs (any_at p xs) e (eqb p x) refl
  where
    by_head : (p x : ℕ) (xs : List ℕ) → (list_any (eqb p) xs ≡ true → Place p xs) →
        list_any (eqb p) (x ∷ xs) ≡ true → (b : Bool) → eqb p x ≡ b → Place p (x ∷ xs)
    by_head p x xs rest e true is = (0, ap some (sym (eqb-true p x is)))
    by_head p x xs rest e false is =
        later p x xs (rest (sym (ap (λ (b : Bool). b || list_any (eqb p) xs) is) ∙ e))

not_any : (p : ℕ) (ys : List ℕ) → list_any (eqb p) ys ≡ false →
    AllByRecursion (λ y. eqb p y ≡ false) ys
not_any p [] e = tt
not_any p (y ∷ ys) e = by_head p y ys (not_any p ys) e (eqb p y) refl
  where
    by_head : (p y : ℕ) (ys : List ℕ) →
        (list_any (eqb p) ys ≡ false → AllByRecursion (λ z. eqb p z ≡ false) ys) →
        list_any (eqb p) (y ∷ ys) ≡ false → (b : Bool) → eqb p y ≡ b →
        AllByRecursion (λ z. eqb p z ≡ false) (y ∷ ys)
    by_head p y ys rest e true is =
        absurd (true≢false (sym (ap (λ (b : Bool). b || list_any (eqb p) ys) is) ∙ e))
    by_head p y ys rest e false is =
        (is, rest (sym (ap (λ (b : Bool). b || list_any (eqb p) ys) is) ∙ e))

at_either : (p : ℕ) (xs : List ℕ) (n : ℕ) → p < n → ((i q : ℕ) → get_elem? xs i ≡ some q → q < n) →
    (i q : ℕ) → get_elem? (p ∷ xs) i ≡ some q → q < n
at_either p xs n lt below zero q e = subst (λ m. m < n) (some-injective p q e) lt
at_either p xs n lt below (suc i) q e = below i q e

-- as many distinct numbers below n as n has each of them
pub each_number : (xs : List ℕ) (n : ℕ) → IsDistinct eqb xs →
    ((i q : ℕ) → get_elem? xs i ≡ some q → q < n) → n ≤ length xs → (p : ℕ) → p < n → Place p xs
each_number xs n distinct below long p lt =
    by_any xs n distinct below long p lt (list_any (eqb p) xs) refl
  where
    by_any : (xs : List ℕ) (n : ℕ) → IsDistinct eqb xs →
        ((i q : ℕ) → get_elem? xs i ≡ some q → q < n) → n ≤ length xs → (p : ℕ) → p < n →
        (b : Bool) → list_any (eqb p) xs ≡ b → Place p xs
    by_any xs n distinct below long p lt true is = any_at p xs is
    by_any xs n distinct below long p lt false is = absurd (
        let two = IsDistinct-cons eqb p xs (not_any p xs is) distinct in
        let l = length-le_from_distinct_below (p ∷ xs) n two
        (λ q e. let r = any_at q (p ∷ xs) e in at_either p xs n lt below r.0 q r.1) in
        omega arith)
