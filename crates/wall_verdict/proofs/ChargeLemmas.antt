-- Charges, rank by rank, and what they meet.
use Rattle.std.proofs.Common.{◌≡◌, ℕ, ◌+◌, Bool, true, false, cond, ◌≤◌, arith, Option, Some, None}
use Rattle.std.proofs.Common.{refl, sym, ap, ◌∙◌, ◌||◌, ⊎_elim, eqb-true, eq-eqb, ne_eqb}
use Rattle.std.specs.Prelude.{◌==◌, nat_eq, count_by, not}
use Rattle.std.specs.List.{list_any}
use Rattle.std.specs.Ordering.{nat_cmp}
use Rattle.std.specs.Cmp.{nat_cmp_total, unsigned_tied}
use Rattle.std.specs.FinSet.{FinSet, empty, insert, contains, contains-insert, contains-empty}
use Rattle.std.proofs.Math.Bool.{or-false}
use Rattle.std.proofs.lemmas.Bool.{cases_Bool, false≢true}
use Rattle.mpi_cart.specs.Grids.{below}
use Rattle.wall_verdict.specs.Charges.{is_that, is_another}
use Rattle.wall_verdict.specs.Inflows.{is_brought}
use Rattle.mpi_cart.proofs.MpiCartLemmas.{any_more, count_more}
use Rattle.wall_verdict.proofs.BelowLemmas.{count_within}

or_comm : (a b : Bool) → (a || b) ≡ (b || a)
or_comm true true = refl
or_comm true false = refl
or_comm false true = refl
or_comm false false = refl

eq_comm : (a b : ℕ) → nat_eq a b ≡ nat_eq b a
eq_comm a b = ⊎_elim
    (λ t. t ∙ sym (eq-eqb b a (sym (eqb-true a b t))))
    (λ f. f ∙ sym (ne_eqb b a (λ e. false≢true (sym f ∙ eq-eqb a b (sym e)))))
    (cases_Bool (a == b))

pub contains_inserted : (s : FinSet nat_cmp) (d q : ℕ) →
    contains (insert s d) q ≡ (contains s q || (d == q))
contains_inserted s d q =
    contains-insert nat_cmp_total s d q
    ∙ (ap (λ b. b || contains s q) (unsigned_tied q d ∙ eq_comm q d)
    ∙ or_comm (d == q) (contains s q))

-- the set of what the ranks below n bring
abbrev pub AreBrought : (ℕ → Option ℕ) → ℕ → FinSet nat_cmp → Type 0
AreBrought f n s = (q : ℕ) → contains s q ≡ list_any (λ i. is_that (f i) q) (below n)

pub brought_none : (f : ℕ → Option ℕ) → AreBrought f 0 empty
brought_none f q = contains-empty nat_cmp q

pub brought_more : (f : ℕ → Option ℕ) (n d : ℕ) (s : FinSet nat_cmp) → f n ≡ Some d →
    AreBrought f n s → AreBrought f (n + 1) (insert s d)
brought_more f n d s e h q =
    contains_inserted s d q
    ∙ (ap (λ b. b || (d == q)) (h q)
    ∙ (ap (λ o. list_any (λ i. is_that (f i) q) (below n) || is_that o q) (sym e)
    ∙ sym (any_more (λ i. is_that (f i) q) n)))

pub brought_same : (f : ℕ → Option ℕ) (n : ℕ) (s : FinSet nat_cmp) → f n ≡ None → AreBrought f n s →
    AreBrought f (n + 1) s
brought_same f n s e h q =
    h q
    ∙ (sym (or-false (list_any (λ i. is_that (f i) q) (below n)))
    ∙ (ap (λ o. list_any (λ i. is_that (f i) q) (below n) || is_that o q) (sym e)
    ∙ sym (any_more (λ i. is_that (f i) q) n)))

pub ruleset brought = (brought_none, brought_more, brought_same)

---- How many different ones they bring.

-- rank i brings one that no rank below it brings
abbrev pub another_of : (ℕ → Option ℕ) → ℕ → Bool
another_of f i = is_another (λ d. is_brought f i d) (f i)

-- one that isn't there counts
pub turned : (b : Bool) → cond {A = ℕ} b 0 1 ≡ cond {A = ℕ} (not b) 1 0
turned true = refl
turned false = refl

pub one_at_most : (b : Bool) → cond {A = ℕ} b 0 1 ≤ 1
one_at_most true = omega arith
one_at_most false = omega arith

pub different_more : (f : ℕ → Option ℕ) (n own m : ℕ) (s : FinSet nat_cmp) → f n ≡ Some own →
    AreBrought f n s → m ≡ count_by (another_of f) (below n)
    → m + cond {A = ℕ} (contains s own) 0 1 ≡ count_by (another_of f) (below (n + 1))
different_more f n own m s is brought so_far =
    (λ k. so_far k + cond {A = ℕ} (brought own k) 0 1)
    ∙ ap (λ (k : ℕ). count_by (another_of f) (below n) + k) (turned (is_brought f n own))
    ∙ ap (λ o. count_by (another_of f) (below n) + cond (is_another (λ d. is_brought f n d) o) 1 0)
    (sym is)
    ∙ sym (count_more (another_of f) n)

pub different_same : (f : ℕ → Option ℕ) (n m : ℕ) → f n ≡ None →
    m ≡ count_by (another_of f) (below n) → m ≡ count_by (another_of f) (below (n + 1))
different_same f n m none so_far =
    so_far
    ∙ (let e : count_by (another_of f) (below n) ≡ count_by (another_of f) (below n) + 0 = omega
    arith in e)
    ∙ ap (λ o. count_by (another_of f) (below n) + cond (is_another (λ d. is_brought f n d) o) 1 0)
    (sym none)
    ∙ sym (count_more (another_of f) n)

pub different_within : (f : ℕ → Option ℕ) (n : ℕ) → count_by (another_of f) (below n) ≤ n
different_within f n = count_within (another_of f) n
