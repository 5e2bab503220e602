-- The policy of the first processes is a policy.
use Rattle.std.proofs.Common.{◌≡◌, ℕ, zero, suc, ◌<◌, ◌≤◌, Bool, true, false, ◌&&◌}
use Rattle.std.proofs.Common.{List, [], ◌∷◌, take, nat_eq, nat_lt, Option, Some, refl}
use Rattle.std.proofs.Common.{sym, ◌∙◌, ap, inl, inr, arith, slice_get}
use Rattle.std.specs.Prelude.{filter, min}
use Rattle.std.proofs.lemmas.Bool.{cases_Bool, and_parts, or_cases, or_parts, or_right, eqb-true}
use Rattle.std.proofs.lemmas.Bool.{ltb-true}
use Rattle.std.proofs.lemmas.List.{length-take}
use Rattle.std.specs.List.{list_all, list_any}
use Rattle.std.specs.Str.{bytes_eq}
use Rattle.wall_policy.specs.Names.{Name, is_name, is_in, comes_twice}
use Rattle.wall_policy.specs.Policy.{ChineseWall, home_if_any, has_pair, HasAtFirst, IsPolicy}
use Rattle.wall_policy.specs.Policy.{first_processes}

-- who is at home somewhere in a front is so in the list
home-prefix : (n : ℕ) (homes : List (Option ℕ)) (p d : ℕ) →
    home_if_any (slice_get (take n homes) p) ≡ Some d →
    home_if_any (slice_get homes p) ≡ Some d
home-prefix zero homes p d at = absurd cc
home-prefix (suc n) [] p d at = absurd cc
home-prefix (suc n) (h ∷ homes) zero d at = at
home-prefix (suc n) (h ∷ homes) (suc p) d at = home-prefix n homes p d at

list_all-prefix : {X : Type 0} (test : X → Bool) (n : ℕ) (xs : List X) →
    list_all test xs ≡ true → list_all test (take n xs) ≡ true
list_all-prefix test zero xs all = refl
list_all-prefix test (suc n) [] all = refl
list_all-prefix test (suc n) (x ∷ xs) all =
    let parts = and_parts (test x) (list_all test xs) all in
    rw (parts.0, list_all-prefix test n xs parts.1) refl

list_any-prefix : {X : Type 0} (test : X → Bool) (n : ℕ) (xs : List X) →
    list_any test xs ≡ false → list_any test (take n xs) ≡ false
list_any-prefix test zero xs none = refl
list_any-prefix test (suc n) [] none = refl
list_any-prefix test (suc n) (x ∷ xs) none =
    let parts = or_parts (test x) (list_any test xs) none in
    rw (parts.0, list_any-prefix test n xs parts.1) refl

comes_twice-prefix : (n : ℕ) (names : List Name) → comes_twice names ≡ false →
    comes_twice (take n names) ≡ false
comes_twice-prefix zero names once = refl
comes_twice-prefix (suc n) [] once = refl
comes_twice-prefix (suc n) (x ∷ names) once =
    let parts = or_parts (is_in names x) (comes_twice names) once in
    rw (list_any-prefix (bytes_eq x) n names parts.0, comes_twice-prefix n names parts.1) refl

-- the pairs of the first processes
abbrev pairs_of : ℕ → List (ℕ × ℕ) → List (ℕ × ℕ)
pairs_of n pairs = filter (λ pair. nat_lt pair.0 n) pairs

abbrev is_pair : (p d : ℕ) → ℕ × ℕ → Bool
is_pair p d pair = nat_eq pair.0 p && nat_eq pair.1 d

pub has_pair-prefix : (n : ℕ) (pairs : List (ℕ × ℕ)) (p d : ℕ) →
    has_pair (pairs_of n pairs) p d ≡ true → (has_pair pairs p d ≡ true) × (p < n)
has_pair-prefix n [] p d has = absurd cc
has_pair-prefix n (x ∷ pairs) p d has = elim (cases_Bool (nat_lt x.0 n)) [
  | inl low ↦ elim (or_cases (is_pair p d x) _ (rw low at has)) [
    | inl this
        ↦
        let same : x.0 ≡ p = eqb-true x.0 p (and_parts (nat_eq x.0 p) _ this).0 in
        (rw this refl, omega (arith, same, ltb-true x.0 n low))
    | inr later
        ↦
        let rest = has_pair-prefix n pairs p d later in
        (or_right (is_pair p d x) _ rest.0, rest.1)
  ]
  | inr high
      ↦
      let rest = has_pair-prefix n pairs p d (rw high at has) in
      (or_right (is_pair p d x) _ rest.0, rest.1)
]

pub has_at_first-prefix : (n : ℕ) (w : ChineseWall) (p d : ℕ) →
    HasAtFirst (first_processes n w) p d → HasAtFirst w p d
has_at_first-prefix n w p d (inl home) = inl (home-prefix n w.homes p d home)
has_at_first-prefix n w p d (inr held) = inr (has_pair-prefix n w.held p d held).0

pub first_processes-IsPolicy : (n : ℕ) (w : ChineseWall) → 1 ≤ n → IsPolicy w →
    IsPolicy (first_processes n w)
first_processes-IsPolicy n w some policy =
    let names = length-take n w.process_names in
    let homes = length-take n w.homes in
    record {
      known_version = policy.known_version;
      some_process = omega (arith, some, policy.some_process, names);
      few_processes = omega (arith, policy.few_processes, names);
      few_datasets = policy.few_datasets;
      few_classes = policy.few_classes;
      class_for_each = policy.class_for_each;
      known_classes = policy.known_classes;
      home_for_each =
          homes ∙ ap (λ (k : ℕ). min n k) policy.home_for_each ∙ sym names;
      known_homes = λ p d at. policy.known_homes p d (home-prefix n w.homes p d at);
      distinct_classes = policy.distinct_classes;
      distinct_datasets = policy.distinct_datasets;
      distinct_processes = comes_twice-prefix n w.process_names policy.distinct_processes;
      good_classes = policy.good_classes;
      good_datasets = policy.good_datasets;
      good_processes = list_all-prefix is_name n w.process_names policy.good_processes;
      good_leasts = policy.good_leasts;
      good_distincts = policy.good_distincts;
      known_held = λ p d has.
          let prefix = has_pair-prefix n w.held p d has in
          let known = policy.known_held p d prefix.0 in
          (omega (arith, prefix.1, known.0, names), known.1);
      apart = λ p d e a b. policy.apart p d e (has_at_first-prefix n w p d a)
          (has_at_first-prefix n w p e b);
    }
