-- Counting each dataset at the first rank that brings it counts the datasets.
use Rattle.std.proofs.Common.{◌≡◌, ℕ, zero, suc, ◌+◌, ◌<◌, Bool, true, false, ◌||◌, List, [], ◌∷◌}
use Rattle.std.proofs.Common.{Option, Some, None, cond, refl, sym, ap, ◌∙◌, subst, arith, add-one}
use Rattle.std.proofs.Common.{⊎_elim, eqb-true, ne_eqb, eq-eqb}
use Rattle.std.specs.Prelude.{count_by, nat_eq}
use Rattle.std.proofs.Math.Bool.{or-false}
use Rattle.std.proofs.lemmas.Bool.{false≢true, cases_Bool}
use Rattle.mpi_cart.specs.Grids.{below}
use Rattle.wall_verdict.specs.Charges.{is_that, is_another}
use Rattle.wall_verdict.specs.Inflows.{is_brought}
use Rattle.mpi_cart.proofs.MpiCartLemmas.{any_more, count_more}
use Rattle.wall_verdict.proofs.ChargeLemmas.{another_of, turned}
use Rattle.wall_verdict.proofs.InflowLemmas.{count_alike}
use Rattle.wall_verdict.specs.Laws.{DifferentAreCountedOnce}

count_none : (xs : List ℕ) → count_by (λ (x : ℕ). false) xs ≡ 0
count_none [] = refl
count_none (x ∷ xs) = count_none xs

-- a place is in a set once more, or it was there
once : (b : Bool) → cond {A = ℕ} (b || true) 1 0 ≡ cond b 1 0 + cond b 0 1
once true = refl
once false = refl

one_more : (p : ℕ → Bool) (d n : ℕ) → d < n →
    count_by (λ e. p e || nat_eq d e) (below n) ≡ count_by p (below n) + cond (p d) 0 1
one_more p d zero h = absurd (omega (arith, h))
one_more p d (suc n) h = subst
    (λ m. count_by (λ e. p e || nat_eq d e) (below m) ≡ count_by p (below m) + cond (p d) 0 1)
    (add-one n) (
    count_more (λ e. p e || nat_eq d e) n
    ∙ ⊎_elim
    (λ same.
    let is : d ≡ n = eqb-true d n same in
    let before : count_by (λ e. p e || nat_eq d e) (below n) ≡ count_by p (below n) = count_alike
    (λ e. p e || nat_eq d e) p n (
    λ e lt. ap (λ b. p e || b) (ne_eqb d e (λ q. let no : ⊥ = omega (arith, is, q, lt) in no))
    ∙ or-false (p e)
    ) in
    let last : cond {A = ℕ} (p n || nat_eq d n) 1 0 ≡ cond (p n) 1 0 + cond (p d) 0 1 = ap
    (λ b. cond {A = ℕ} (p n || b) 1 0) same ∙ once (p n) ∙ ap
    (λ m. cond {A = ℕ} (p n) 1 0 + cond {A = ℕ} (p m) 0 1) (sym is) in
    let more = count_more p n in
    omega (arith, before, last, more))
    (λ other.
    let lt : d < n = omega (arith, h, (λ (q : d ≡ n). false≢true (sym other ∙ eq-eqb d n q))) in
    let before = one_more p d n lt in
    let last : cond {A = ℕ} (p n || nat_eq d n) 1 0 ≡ cond (p n) 1 0 = ap
    (λ b. cond {A = ℕ} (p n || b) 1 0) other ∙ ap (λ b. cond {A = ℕ} b 1 0) (or-false (p n)) in
    let more = count_more p n in
    omega (arith, before, last, more))
    (cases_Bool (nat_eq d n))
    )

module _ (f : ℕ → Option ℕ) (bound : ℕ) (within : (i d : ℕ) → f i ≡ Some d → d < bound) where
  rank_more : (n : ℕ) (o : Option ℕ) → f n ≡ o
      →
      count_by (λ d. is_brought f n d || is_that o d) (below bound)
      ≡ count_by (λ d. is_brought f n d) (below bound)
      + cond (is_another (λ d. is_brought f n d) o) 1 0
  rank_more n None is =
      count_alike (λ d. is_brought f n d || false) (λ d. is_brought f n d) bound
      (λ d lt. or-false (is_brought f n d))
      ∙ (let e : count_by (λ d. is_brought f n d) (below bound) ≡ count_by (λ d. is_brought f n d)
      (below bound) + 0 = omega arith in e)
  rank_more n (Some own) is =
      one_more (λ d. is_brought f n d) own bound (within n own is)
      ∙ ap (λ (k : ℕ). count_by (λ d. is_brought f n d) (below bound) + k)
      (turned (is_brought f n own))

  pub different_is : (n : ℕ) →
      count_by (another_of f) (below n) ≡ count_by (λ d. is_brought f n d) (below bound)
  different_is zero = sym (count_none (below bound))
  different_is (suc n) = subst
      (λ m. count_by (another_of f) (below m) ≡ count_by (λ d. is_brought f m d) (below bound))
      (add-one n) (
      count_more (another_of f) n
      ∙ ap (λ (k : ℕ). k + cond (another_of f n) 1 0) (different_is n)
      ∙ sym (rank_more n (f n) refl)
      ∙ sym (count_alike (λ d. is_brought f (n + 1) d) (λ d. is_brought f n d || is_that (f n) d)
      bound (λ d lt. any_more (λ i. is_that (f i) d) n))
      )

pub different_are_counted_once : DifferentAreCountedOnce
different_are_counted_once roll j bound within = different_is
    (λ i. Rattle.wall_verdict.specs.Charges.contribution roll i j) bound within roll.shape.size
