-- The numbers below one more, for the crates above.
use Rattle.std.proofs.Common.{◌≡◌, ℕ, zero, suc, ◌+◌, List, [], ◌∷◌, ◌++◌, ◌∙◌, ap, sym, subst}
use Rattle.std.proofs.Common.{arith, add-one, Bool, ◌||◌, cond}
use Rattle.std.specs.Prelude.{count_by}
use Rattle.std.specs.List.{range_with_len, list_any}
use Rattle.std.proofs.Math.Bool.{or-false}
use Rattle.std.proofs.lemmas.List.Folds.{list_any-append}
use Rattle.std.proofs.lemmas.List.Sums.{sum_by-append}
use Rattle.mpi_cart.specs.Grids.{below}

pub range_more : (a n : ℕ) → range_with_len a (suc n) ≡ range_with_len a n ++ (a + n) ∷ []
range_more a zero = let e : a ≡ a + zero = omega arith in ap (λ (k : ℕ). k ∷ []) e
range_more a (suc n) = let e : (a + 1) + n ≡ a + suc n = omega arith in
    ap (λ (r : List ℕ). a ∷ r)
    (range_more (a + 1) n ∙ ap (λ (k : ℕ). range_with_len (a + 1) n ++ k ∷ []) e)

pub below_more : (n : ℕ) → below (n + 1) ≡ below n ++ n ∷ []
below_more n = let e : 0 + n ≡ n = omega arith in
    subst (λ m. below m ≡ below n ++ n ∷ []) (sym (add-one n))
    (range_more 0 n ∙ ap (λ (k : ℕ). below n ++ k ∷ []) e)

pub any_more : (p : ℕ → Bool) (n : ℕ) → list_any p (below (n + 1)) ≡ (list_any p (below n) || p n)
any_more p n = ap (λ xs. list_any p xs) (below_more n)
    ∙ (list_any-append p (below n) (n ∷ []) ∙ ap (λ b. list_any p (below n) || b) (or-false (p n)))

pub count_more : (p : ℕ → Bool) (n : ℕ) →
    count_by p (below (n + 1)) ≡ count_by p (below n) + cond (p n) 1 0
count_more p n = ap (λ xs. count_by p xs) (below_more n)
    ∙ (sum_by-append (λ x. cond (p x) 1 0) (below n) (n ∷ [])
    ∙ (let e : 0 + cond (p n) 1 0 ≡ cond (p n) 1 0 = omega arith in
    ap (λ (k : ℕ). count_by p (below n) + k) e))
