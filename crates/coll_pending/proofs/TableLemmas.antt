-- Tables with one value written over.
use Rattle.std.proofs.Common.{◌≡◌, ◌≢◌, ℕ, refl, sym, ap, ◌∙◌, subst, arith, eqb}
use Rattle.std.proofs.Common.{eq-eqb, ne_eqb, inl, inr}
use Rattle.std.proofs.lemmas.Bool.{cases_eq, cond-true, cond-false}
use Rattle.std.proofs.lemmas.Bool.Decides.{nat_tests}
use Rattle.coll_pending.specs.Keyed.{updated}
use Rattle.coll_pending.specs.Waiting.{updated_at}

module _ {A : Type 0} where
  pub updated_here : (table : ℕ → A) (n : ℕ) (x : A) → updated table n x n ≡ x
  updated_here table n x = cond-true (eqb n n) x (table n) (eq-eqb n n refl)

  pub updated_other : (table : ℕ → A) (n : ℕ) (x : A) (q : ℕ) → q ≢ n →
      updated table n x q ≡ table q
  updated_other table n x q other = cond-false (eqb q n) x (table q) (ne_eqb q n other)

  pub updated_twice : (table : ℕ → A) (n : ℕ) (x y : A) →
      updated (updated table n x) n y ≡ updated table n y
  updated_twice table n x y = λ j q. at q j
    where
      at : (q : ℕ) → updated (updated table n x) n y q ≡ updated table n y q
      at q = grind (arith, nat_tests)

  -- a table that has this at one place, and elsewhere what another has
  pub updated_is : (old new : ℕ → A) (n : ℕ) (x : A) → new n ≡ x →
      ((q : ℕ) → q ≢ n → new q ≡ old q) → new ≡ updated old n x
  updated_is old new n x here there = λ j q. at q j
    where
      at : (q : ℕ) → new q ≡ updated old n x q
      at q = elim (cases_eq q n) [
        | inl same ↦ ap new same
            ∙ (here ∙ sym (subst (λ m. updated old n x m ≡ x) (sym same) (updated_here old n x)))
        | inr other ↦ there q other ∙ sym (updated_other old n x q other)
      ]

  pub updated_same : (table : ℕ → A) (n : ℕ) (x : A) → table n ≡ x → updated table n x ≡ table
  updated_same table n x has = sym (updated_is table table n x has (λ q other. refl))

-- the same by two numbers
module _ {A : Type 0} where
  pub updated_at_is : (old new : ℕ → ℕ → A) (c k : ℕ) (x : A) → new c k ≡ x →
      ((d l : ℕ) → ((d ≡ c) × (l ≡ k) → ⊥) → new d l ≡ old d l) → new ≡ updated_at old c k x
  updated_at_is old new c k x here there = updated_is old new c (updated (old c) k x)
      (updated_is (old c) (new c) k x here (λ l other. there c l (λ p. other p.1)))
      (λ d other. λ j l. there d l (λ p. other p.0) j)

  pub updated_at_twice : (table : ℕ → ℕ → A) (c k : ℕ) (x y : A) →
      updated_at (updated_at table c k x) c k y ≡ updated_at table c k y
  updated_at_twice table c k x y = λ j d l. at d l j
    where
      at : (d l : ℕ) → updated_at (updated_at table c k x) c k y d l ≡ updated_at table c k y d l
      at d l = grind (arith, nat_tests)

  pub updated_at_here : (table : ℕ → ℕ → A) (c k : ℕ) (x : A) → updated_at table c k x c k ≡ x
  updated_at_here table c k x =
      ap (λ (row : ℕ → A). row k) (updated_here table c (updated (table c) k x))
      ∙ updated_here (table c) k x
