-- The test of rivals, and the relation: two different datasets of one class.
use Rattle.std.proofs.Common.{◌≡◌, ◌≢◌, ℕ, zero, suc, ◌+◌, ◌<◌, true, false, not, ◌&&◌}
use Rattle.std.proofs.Common.{nat_eq, List, [], ◌∷◌, ◌++◌, length, Option, Some, None, refl, sym}
use Rattle.std.proofs.Common.{ap, ◌∙◌, inl, inr, arith, slice_get}
use Rattle.std.specs.Prelude.{Contains, slice_index_or}
use Rattle.std.proofs.lemmas.Bool.{ne_eqb, eq-eqb, and_parts}
use Rattle.std.proofs.lemmas.Bool.Decides.{eqb_tells}
use Rattle.wall_policy.specs.Rivals.{datasets_from, AreRivals, is_one_class, are_rivals}

behind : (y : ℕ) (xs : List ℕ) (x : ℕ) → Contains xs x → Contains (y ∷ xs) x
behind y xs x h = (suc h.0, omega (arith, h.1), h.2)

-- a dataset stands in the list of its class
listed : (cs : List ℕ) (class n i d : ℕ) → d ≡ n + i → slice_get cs i ≡ Some class →
    Contains (datasets_from n cs class) d
listed [] class n i d place at = absurd cc
listed (c ∷ cs) class n zero d place at =
    let same : c ≡ class = cc in
    let first : n ≡ d = omega (arith, place) in
    rw (eq-eqb c class same) (0, omega arith, first)
listed (c ∷ cs) class n (suc i) d place at =
    let later = listed cs class (n + 1) i d (omega (arith, place)) at in
    elim (eqb_tells c class) [
      | inl e ↦ rw e.0 (behind n _ d later)
      | inr e ↦ rw e.0 later
    ]

-- what stands in that list is of the class
abbrev StandsAt : List ℕ → ℕ → ℕ → ℕ → Type 0
StandsAt cs class n d = (i : ℕ) × (d ≡ n + i) × (slice_get cs i ≡ Some class)

first_or_later : (c class n d : ℕ) (cs : List ℕ) (k : ℕ) → c ≡ class →
    k < length (n ∷ datasets_from (n + 1) cs class) →
    slice_index_or (n ∷ datasets_from (n + 1) cs class) k d ≡ d
    → (Contains (datasets_from (n + 1) cs class) d → StandsAt cs class (n + 1) d) →
    StandsAt (c ∷ cs) class n d
first_or_later c class n d cs zero same lt is rest =
    (0, omega (arith, is), ap (λ (k : ℕ). Some k) same)
first_or_later c class n d cs (suc k) same lt is rest =
    let later = rest (k, omega (arith, lt), is) in
    (suc later.0, omega (arith, later.1), later.2)

stands : (cs : List ℕ) (class n d : ℕ) → Contains (datasets_from n cs class) d →
    StandsAt cs class n d
stands [] class n d h = absurd (omega (arith, h.1))
stands (c ∷ cs) class n d h = elim (eqb_tells c class) [
  | inl e
      ↦
      let here = rw e.0 at h in
      first_or_later c class n d cs here.0 e.1 here.1 here.2
      (λ rest. stands cs class (n + 1) d rest)
  | inr e ↦
      let later = stands cs class (n + 1) d (rw e.0 at h) in
      (suc later.0, omega (arith, later.1), later.2)
]

one_class : (a b : Option ℕ) → is_one_class a b ≡ true →
    (class : ℕ) × (a ≡ Some class) × (b ≡ Some class)
one_class (Some c) (Some k) h = elim (eqb_tells c k) [
  | inl e ↦ (k, ap (λ (x : ℕ). Some x) e.1, refl)
  | inr e ↦ absurd cc
]
one_class (Some c) None h = absurd cc
one_class None b h = absurd cc

differ : (d e : ℕ) → not (nat_eq d e) ≡ true → d ≢ e
differ d e h = elim (eqb_tells d e) [
  | inl same ↦ let no : not true ≡ true = rw same.0 at h in absurd cc
  | inr other ↦ other.1
]

pub are_rivals-Decides : (classes : List ℕ) (d e : ℕ) → (are_rivals classes d e ≡ true →
    AreRivals classes d e) × (AreRivals classes d e → are_rivals classes d e ≡ true)
unfolding are_rivals
are_rivals-Decides classes d e = (
  λ h.
      let parts = and_parts (not (nat_eq d e)) _ h in
      let one = one_class (slice_get classes d) (slice_get classes e) parts.1 in (
        differ d e parts.0,
        (
          one.0,
          listed classes one.0 0 d d (omega arith) one.1,
          listed classes one.0 0 e e (omega arith) one.2,
        ),
      ),
  λ (r : AreRivals classes d e).
      let left = stands classes r.1.0 0 d r.1.1 in
      let right = stands classes r.1.0 0 e r.1.2 in
      let at_left : left.0 ≡ d = omega (arith, left.1) in
      let at_right : right.0 ≡ e = omega (arith, right.1) in
      rw (ne_eqb d e r.0, rw at_left at left.2, rw at_right at right.2, eq-eqb r.1.0 r.1.0 refl)
      refl,
)

-- no dataset is a rival of itself
pub are_rivals-self : (classes : List ℕ) (d : ℕ) → are_rivals classes d d ≡ false
unfolding are_rivals
are_rivals-self classes d = rw (eq-eqb d d refl) refl

eq-symmetric : (a b : ℕ) → nat_eq a b ≡ nat_eq b a
eq-symmetric a b = elim (eqb_tells a b) [
  | inl same ↦ same.0 ∙ sym (eq-eqb b a (sym same.1))
  | inr other ↦ let turned : b ≢ a = λ h. other.1 (sym h) in other.0 ∙ sym (ne_eqb b a turned)
]

one_class-symmetric : (a b : Option ℕ) → is_one_class a b ≡ is_one_class b a
one_class-symmetric (Some c) (Some k) = eq-symmetric c k
one_class-symmetric (Some c) None = refl
one_class-symmetric None (Some k) = refl
one_class-symmetric None None = refl

pub are_rivals-symmetric : (classes : List ℕ) (d e : ℕ) →
    are_rivals classes d e ≡ are_rivals classes e d
unfolding are_rivals
are_rivals-symmetric classes d e = λ i.
    not (eq-symmetric d e i) && one_class-symmetric (slice_get classes d) (slice_get classes e) i

pub rivals_turned : (classes : List ℕ) (d e : ℕ) → AreRivals classes d e → AreRivals classes e d
rivals_turned classes d e r = (λ same. r.0 (sym same), (r.1.0, r.1.2, r.1.1))

---- More datasets behind those that are there.

in_both : (n d : ℕ) (xs ys : List ℕ) (k : ℕ) → k < length (n ∷ xs) →
    slice_index_or (n ∷ xs) k d ≡ d → (Contains xs d → Contains ys d) → Contains (n ∷ ys) d
in_both n d xs ys zero lt is later = (0, omega arith, is)
in_both n d xs ys (suc k) lt is later = behind n ys d (later (k, omega (arith, lt), is))

-- a dataset of a class stays in it
listed_in_prefix : (cs rest : List ℕ) (n class d : ℕ) → Contains (datasets_from n cs class) d →
    Contains (datasets_from n (cs ++ rest) class) d
listed_in_prefix [] rest n class d h = absurd (omega (arith, h.1))
listed_in_prefix (c ∷ cs) rest n class d h = elim (eqb_tells c class) [
  | inl e ↦
      let here = rw e.0 at h in
      rw e.0 (in_both n d (datasets_from (n + 1) cs class)
      (datasets_from (n + 1) (cs ++ rest) class) here.0 here.1 here.2
      (listed_in_prefix cs rest (n + 1) class d))
  | inr e ↦ rw e.0 (listed_in_prefix cs rest (n + 1) class d (rw e.0 at h))
]

-- rivals stay rivals
pub rivals_in_prefix : (prefix rest : List ℕ) (d e : ℕ) → AreRivals prefix d e →
    AreRivals (prefix ++ rest) d e
rivals_in_prefix prefix rest d e (apart, (class, one, other)) = (
  apart,
  (
    class,
    listed_in_prefix prefix rest 0 class d one,
    listed_in_prefix prefix rest 0 class e other,
  ),
)
