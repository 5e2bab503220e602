-- In a list where no name comes twice, the place of the name at a place is that place.
use Rattle.std.proofs.Common.{◌≡◌, ℕ, zero, suc, ◌+◌, Bool, true, false, List, [], ◌∷◌}
use Rattle.std.proofs.Common.{Option, Some, refl, sym, ap, ◌∙◌, inl, inr, arith, slice_get}
use Rattle.std.proofs.Common.{zero-add}
use Rattle.std.proofs.lemmas.Bool.{cases_Bool, and_parts, or_parts}
use Rattle.std.proofs.lemmas.Slice.Eq.{bytes_eq-Decides}
use Rattle.std.specs.List.{position_from, list_all}
use Rattle.std.specs.Str.{bytes_eq}
use Rattle.wall_policy.specs.Names.{Name, place_of, is_in, comes_twice}

same_bytes : (n : Name) → bytes_eq n n ≡ true
same_bytes n = (bytes_eq-Decides n n).1 refl

pub bytes_eq-symmetric : (a b : Name) → bytes_eq a b ≡ bytes_eq b a
bytes_eq-symmetric a b = elim (cases_Bool (bytes_eq a b)) [
  | inl met ↦ met ∙ sym ((bytes_eq-Decides b a).1 (sym ((bytes_eq-Decides a b).0 met)))
  | inr not_met ↦ elim (cases_Bool (bytes_eq b a)) [
    | inl same
        ↦
        let other : bytes_eq a b ≡ true = (bytes_eq-Decides a b).1
        (sym ((bytes_eq-Decides b a).0 same)) in cc
    | inr other ↦ not_met ∙ sym other
  ]
]

abbrev found : Name → Option Name
found n = Some n

some_is : (x n : Name) → found x ≡ found n → x ≡ n
some_is x n e = cc

-- a name that is in no place of a list is another than the one at a place
other_than : (x : Name) (ns : List Name) (i : ℕ) (n : Name) → is_in ns x ≡ false →
    slice_get ns i ≡ Some n → bytes_eq x n ≡ false
other_than x [] i n none at = absurd cc
other_than x (m ∷ ms) zero n none at =
    ap (bytes_eq x) (sym (some_is m n at)) ∙ (or_parts (bytes_eq x m) _ none).0
other_than x (m ∷ ms) (suc i) n none at = other_than x ms i n (or_parts (bytes_eq x m) _ none).1 at

place_from : (ns : List Name) (k i : ℕ) (n : Name) → comes_twice ns ≡ false →
    slice_get ns i ≡ Some n → position_from (bytes_eq n) k ns ≡ Some (k + i)
place_from [] k i n once at = absurd cc
place_from (x ∷ xs) k zero n once at =
    let same : bytes_eq n x ≡ true = ap (bytes_eq n) (some_is x n at) ∙ same_bytes n in
    let at_k : k ≡ k + 0 = omega arith in
    rw same (ap (λ (j : ℕ). Some j) at_k)
place_from (x ∷ xs) k (suc i) n once at =
    let parts = or_parts (is_in xs x) (comes_twice xs) once in
    let sum : k + 1 + i ≡ k + suc i = omega arith in
    rw (bytes_eq-symmetric n x ∙ other_than x xs i n parts.0 at)
    (place_from xs (k + 1) i n parts.1 at ∙ ap (λ (j : ℕ). Some j) sum)

pub place_of-name : (ns : List Name) (i : ℕ) (n : Name) → comes_twice ns ≡ false →
    slice_get ns i ≡ Some n → place_of n ns ≡ Some i
place_of-name ns i n once at = place_from ns 0 i n once at ∙ ap (λ (j : ℕ). Some j) (zero-add i)

-- a test that each name passes is passed by the name at a place
pub list_all-place : (test : Name → Bool) (ns : List Name) (i : ℕ) (n : Name) →
    list_all test ns ≡ true → slice_get ns i ≡ Some n → test n ≡ true
list_all-place test [] i n passed at = absurd cc
list_all-place test (m ∷ ms) zero n passed at =
    ap test (sym (some_is m n at)) ∙ (and_parts (test m) _ passed).0
list_all-place test (m ∷ ms) (suc i) n passed at =
    list_all-place test ms i n (and_parts (test m) _ passed).1 at
