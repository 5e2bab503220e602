-- Lists over the numbers below n, by one number more.
use Rattle.std.proofs.Common.{◌≡◌, ℕ, zero, suc, ◌+◌, ◌<◌, Bool, true, false, [], ◌∷◌}
use Rattle.std.proofs.Common.{sym, ap, ◌∙◌, subst, ◌||◌, cond, arith, add-one, inl}
use Rattle.std.proofs.Common.{inr}
use Rattle.std.proofs.Common.{refl}
use Rattle.std.specs.Prelude.{count_by}
use Rattle.std.specs.List.{list_any}
use Rattle.std.proofs.lemmas.Bool.{cases_lt}
use Rattle.mpi_cart.specs.Grids.{below}
use Rattle.mpi_cart.proofs.MpiCartLemmas.{any_more, count_more}

pub none_more : (p : ℕ → Bool) (n : ℕ) → list_any p (below n) ≡ false → p n ≡ false →
    list_any p (below (n + 1)) ≡ false
none_more p n before here = any_more p n ∙ (λ i. before i || here i)

or_true : (b : Bool) → (b || true) ≡ true
or_true true = refl
or_true false = refl

-- one that passes stays there
pub some_later : (p : ℕ → Bool) (k n : ℕ) → k < n → p k ≡ true → list_any p (below n) ≡ true
some_later p k zero lt here = absurd (omega arith)
some_later p k (suc n) lt here = subst (λ m. list_any p (below m) ≡ true) (add-one n)
    (any_more p n ∙ elim (cases_lt k n) [
      | inl low ↦ ap (λ b. b || p n) (some_later p k n low here)
      | inr high ↦ let same : k ≡ n = omega arith in
          ap (λ b. list_any p (below n) || b) (sym (ap p same) ∙ here)
          ∙ or_true (list_any p (below n))
    ])

pub count_yes : (p : ℕ → Bool) (n c : ℕ) → c ≡ count_by p (below n) → p n ≡ true →
    c + 1 ≡ count_by p (below (n + 1))
count_yes p n c e here =
    sym (count_more p n ∙ (λ i. sym e i + cond (here i) 1 0))

pub count_no : (p : ℕ → Bool) (n c : ℕ) → c ≡ count_by p (below n) → p n ≡ false →
    c ≡ count_by p (below (n + 1))
count_no p n c e here =
    let none : c + 0 ≡ c = omega arith in
    sym none ∙ sym (count_more p n ∙ (λ i. sym e i + cond (here i) 1 0))
