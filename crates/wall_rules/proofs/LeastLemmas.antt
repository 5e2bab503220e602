-- When a number is the least with a property.
use Rattle.std.proofs.Common.{◌≡◌, ◌≢◌, ℕ, zero, suc, ◌+◌, ◌-◌, ◌<◌, Bool, true, false, Option}
use Rattle.std.proofs.Common.{Some, None, refl, ◌⊎◌, inl, inr, arith, add-one, add-zero, add-suc}
use Rattle.std.proofs.lemmas.Bool.Decides.{eqb_tells}
use Rattle.wall_rules.specs.Least.{least, or_last}

-- the step, as loops count
pub least_more : (has : ℕ → Bool) (n : ℕ) → least has (n + 1) ≡ or_last (least has n) (has n) n
unfolding least
least_more has n = rw add-one refl

pub least_zero : (has : ℕ → Bool) → least has 0 ≡ None
unfolding least
least_zero has = refl

-- what is found is found below each higher bound
least_stays : (has : ℕ → Bool) (k n d : ℕ) → least has n ≡ Some k → least has (n + d) ≡ Some k
least_stays has k n zero found = rw add-zero found
least_stays has k n (suc d) found =
    rw (add-suc, ← add-one, least_more, least_stays has k n d found) refl

-- none below the next number
pub least_none : (has : ℕ → Bool) (k : ℕ) → least has k ≡ None → has k ≡ false →
    least has (k + 1) ≡ None
least_none has k none here = rw (least_more, none, here) refl

-- a number that no smaller one precedes is the least below each higher bound
pub least_found : (has : ℕ → Bool) (k n : ℕ) → least has k ≡ None → has k ≡ true → k < n →
    least has n ≡ Some k
least_found has k n none here lt =
    let first : least has (k + 1) ≡ Some k = rw (least_more, none, here) refl in
    let split : n ≡ (k + 1) + (n - (k + 1)) = omega arith in
    rw split (least_stays has k (k + 1) (n - (k + 1)) first)

equal_or_not : (a b : ℕ) → (a ≡ b) ⊎ (a ≢ b)
equal_or_not a b = elim (eqb_tells a b) [ inl e ↦ inl e.1 | inr e ↦ inr e.1 ]

or_last-none : (o : Option ℕ) (b : Bool) (n : ℕ) → or_last o b n ≡ None → (o ≡ None) × (b ≡ false)
or_last-none (Some k) b n h = cc
or_last-none None true n h = cc
or_last-none None false n h = (refl, refl)

-- where there is no least, no number below has the property
pub least-none : (has : ℕ → Bool) (n : ℕ) → least has n ≡ None → (k : ℕ) → k < n → has k ≡ false
unfolding least
least-none has zero none k lt = absurd (omega arith)
least-none has (suc n) none k lt =
    let both = or_last-none (least has n) (has n) n none in
    elim (equal_or_not k n)
    [ inl same ↦ rw same both.1 | inr other ↦ least-none has n both.0 k (omega arith) ]

-- and the other way about
pub none-least : (has : ℕ → Bool) (n : ℕ) → ((k : ℕ) → k < n → has k ≡ false) → least has n ≡ None
unfolding least
none-least has zero none = refl
none-least has (suc n) none =
    rw (none-least has n (λ k lt. none k (omega arith)), none n (omega arith)) refl

or_last-some : (o : Option ℕ) (b : Bool) (n k : ℕ) → or_last o b n ≡ Some k →
    (o ≡ Some k) ⊎ ((o ≡ None) × (b ≡ true) × (k ≡ n))
or_last-some (Some j) b n k h = inl h
or_last-some None true n k h = let same : k ≡ n = cc in inr (refl, refl, same)
or_last-some None false n k h = absurd cc

-- the least has the property, and is below the bound, and no number below it has the property
pub least-some : (has : ℕ → Bool) (n k : ℕ) → least has n ≡ Some k →
    (has k ≡ true) × (k < n) × ((j : ℕ) → j < k → has j ≡ false)
unfolding least
least-some has zero k h = absurd cc
least-some has (suc n) k h = elim (or_last-some (least has n) (has n) n k h) [
  | inl before ↦ let found = least-some has n k before in (found.0, omega (arith, found.1), found.2)
  | inr here
      ↦ (
        rw here.2 here.1,
        omega (arith, here.2),
        λ j lt. least-none has n here.0 j (omega (arith, here.2)),
      )
]

-- and the other way about
pub some-least : (has : ℕ → Bool) (n k : ℕ) → has k ≡ true → k < n →
    ((j : ℕ) → j < k → has j ≡ false) → least has n ≡ Some k
some-least has n k here lt none = least_found has k n (none-least has k none) here lt

-- properties that agree below the bound have one least
pub least-alike : (f g : ℕ → Bool) (n : ℕ) → ((k : ℕ) → k < n → f k ≡ g k) → least f n ≡ least g n
unfolding least
least-alike f g zero same = refl
least-alike f g (suc n) same =
    λ i. or_last (least-alike f g n (λ k lt. same k (omega arith)) i) (same n (omega arith) i) n
