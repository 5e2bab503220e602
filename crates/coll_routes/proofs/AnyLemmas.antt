-- A test of the numbers in a range.
use Rattle.std.proofs.Common.{◌≡◌, ◌≢◌, ℕ, zero, suc, ◌+◌, ◌<◌, ◌≤◌, ◌∙◌, ap, sym, refl, arith}
use Rattle.std.proofs.Common.{Bool, true, false, ◌||◌, ⊎_elim}
use Rattle.std.specs.List.{list_any, range_with_len}
use Rattle.std.proofs.lemmas.Bool.{cases_Bool}

differs : (test : ℕ → Bool) (a k : ℕ) → test a ≡ false → test k ≡ true → a ≢ k
differs test a k f e z = let same = ap test z in absurd (cc)

-- one number passes
pub any_at : (test : ℕ → Bool) (a n k : ℕ) → a ≤ k → k < a + n → test k ≡ true →
    list_any test (range_with_len a n) ≡ true
any_at test a zero k h g e = absurd (omega arith)
any_at test a (suc n) k h g e = ⊎_elim
    (λ t. ap (λ b. b || list_any test (range_with_len (a + 1) n)) t)
    (λ f. let ne = differs test a k f e in
    ap (λ b. b || list_any test (range_with_len (a + 1) n)) f
    ∙ any_at test (a + 1) n k (omega arith) (omega arith) e)
    (cases_Bool (test a))

-- none passes
pub any_none : (test : ℕ → Bool) (a n : ℕ) → ((k : ℕ) → k < a + n → test k ≡ false) →
    list_any test (range_with_len a n) ≡ false
any_none test a zero h = refl
any_none test a (suc n) h = ap (λ b. b || list_any test (range_with_len (a + 1) n))
    (h a (omega arith)) ∙ any_none test (a + 1) n (λ k g. h k (omega arith))

-- where some passes, there is one
pub any_found : (test : ℕ → Bool) (a n : ℕ) → list_any test (range_with_len a n) ≡ true →
    (k : ℕ) × (k < a + n) × (test k ≡ true)
any_found test a zero e = absurd (cc)
any_found test a (suc n) e = ⊎_elim
    (λ t. (a, omega arith, t))
    (λ f. let rest : list_any test (range_with_len (a + 1) n) ≡ true = ap
    (λ b. b || list_any test (range_with_len (a + 1) n)) (sym f) ∙ e in
    let found = any_found test (a + 1) n rest in (found.0, omega (arith, found.1), found.2))
    (cases_Bool (test a))
