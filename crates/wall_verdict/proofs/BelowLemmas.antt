-- Lists over the numbers below n, by one number more.
use Rattle.std.proofs.Common.{◌≡◌, ℕ, zero, suc, ◌+◌, ◌<◌, ◌≤◌, Bool, true, false, List, [], ◌∷◌}
use Rattle.std.proofs.Common.{◌++◌, length, map, find, flat_map, Some, None, refl, sym, ap, ◌∙◌}
use Rattle.std.proofs.Common.{subst, ◌||◌, arith, ⊎_elim, ◌-◌}
use Rattle.std.specs.Prelude.{count_by}
use Rattle.std.specs.List.{range_with_len}
use Rattle.std.specs.Option.{option_or, option_map}
use Rattle.std.proofs.lemmas.Bool.{cond-true, cond-false, cases_Bool}
use Rattle.std.proofs.lemmas.List.Folds.{find-append}
use Rattle.std.proofs.lemmas.Grind.{flat_map-append}
use Rattle.mpi_cart.specs.Grids.{below}
use Rattle.mpi_cart.proofs.MpiCartLemmas.{below_more}

range_split : (a i m : ℕ) →
    range_with_len a (i + m) ≡ range_with_len a i ++ range_with_len (a + i) m
range_split a zero m =
    let e : zero + m ≡ m = omega arith in
    let f : a ≡ a + zero = omega arith in
    ap (λ n. range_with_len a n) e ∙ ap (λ b. range_with_len b m) f
range_split a (suc i) m =
    let e : suc i + m ≡ suc (i + m) = omega arith in
    let f : (a + 1) + i ≡ a + suc i = omega arith in
    ap (λ n. range_with_len a n) e
    ∙ ap (λ (r : List ℕ). a ∷ r)
    (range_split (a + 1) i m ∙ ap (λ b. range_with_len (a + 1) i ++ range_with_len b m) f)

-- a number below n stands in the list, after those below it
pub below_split : (n i : ℕ) → i < n → (rest : List ℕ) × (below n ≡ below i ++ i ∷ rest)
below_split n i h = go (n - suc i) (omega arith)
  where
    go : (m : ℕ) → n ≡ i + suc m → (rest : List ℕ) × (below n ≡ below i ++ i ∷ rest)
    go m e = let f : 0 + i ≡ i = omega arith in (
      range_with_len (i + 1) m,
      ap (λ k. below k) e
          ∙ (range_split 0 i (suc m) ∙ ap (λ b. below i ++ range_with_len b (suc m)) f),
    )

pub length_below : (n : ℕ) → length (below n) ≡ n
length_below n = Rattle.std.proofs.lemmas.List.FromFn.length-range_with_len 0 n

pub count_within : (p : ℕ → Bool) (n : ℕ) → count_by p (below n) ≤ n
count_within p n = subst (λ m. count_by p (below n) ≤ m) (length_below n)
    (Rattle.std.proofs.lemmas.List.Sums.count_by-le-length p (below n))

find_one : {X : Type 0} (p : X → Bool) (x : X) (rest : List X) → p x ≡ true →
    find p (x ∷ rest) ≡ Some x
find_one p x rest t = cond-true (p x) (Some x) (find p rest) t

pub find_none_more : (p : ℕ → Bool) (n : ℕ) → find p (below n) ≡ None → p n ≡ false →
    find p (below (n + 1)) ≡ None
find_none_more p n none fails = ap (λ xs. find p xs) (below_more n)
    ∙ (find-append p (below n) (n ∷ [])
    ∙ (ap (λ o. option_or o (find p (n ∷ []))) none ∙ cond-false (p n) (Some n) None fails))

pub find_found : (p : ℕ → Bool) (n i : ℕ) → i < n → find p (below i) ≡ None → p i ≡ true →
    find p (below n) ≡ Some i
find_found p n i h none holds =
    let s = below_split n i h in
    ap (λ xs. find p xs) s.1
    ∙ (find-append p (below i) (i ∷ s.0)
    ∙ (ap (λ o. option_or o (find p (i ∷ s.0))) none ∙ find_one p i s.0 holds))

pub flat_more : {X : Type 0} (f : ℕ → List X) (n : ℕ) →
    flat_map f (below (n + 1)) ≡ flat_map f (below n) ++ f n
flat_more f n = ap (λ xs. flat_map f xs) (below_more n)
    ∙ (flat_map-append f (below n) (n ∷ [])
    ∙ ap (λ ys. flat_map f (below n) ++ ys) (append_nil (f n)))
  where
    append_nil : {X : Type 0} (xs : List X) → xs ++ [] ≡ xs
    append_nil xs = Rattle.std.proofs.lemmas.List.append-nil xs

-- rows of a table, one after the other
pub rows_none : {X : Type 0} (p : X → Bool) (row : ℕ → List X) (n : ℕ) →
    find p (flat_map row (below n)) ≡ None → find p (row n) ≡ None →
    find p (flat_map row (below (n + 1))) ≡ None
rows_none p row n none fails = ap (λ xs. find p xs) (flat_more row n)
    ∙ (find-append p (flat_map row (below n)) (row n)
    ∙ (ap (λ o. option_or o (find p (row n))) none ∙ fails))

pub rows_found : {X : Type 0} (p : X → Bool) (row : ℕ → List X) (n i : ℕ) (x : X) → i < n →
    find p (flat_map row (below i)) ≡ None → find p (row i) ≡ Some x →
    find p (flat_map row (below n)) ≡ Some x
rows_found p row n i x h none holds =
    let s = below_split n i h in
    let rest = flat_map row s.0 in
    ap (λ xs. find p (flat_map row xs)) s.1
    ∙ (ap (λ xs. find p xs) (flat_map-append row (below i) (i ∷ s.0))
    ∙ (find-append p (flat_map row (below i)) (row i ++ rest)
    ∙ (ap (λ o. option_or o (find p (row i ++ rest))) none
    ∙ (find-append p (row i) rest ∙ ap (λ o. option_or o (find p rest)) holds))))

pub find_map : {X Y : Type 0} (p : Y → Bool) (f : X → Y) (xs : List X) →
    find p (map f xs) ≡ option_map f (find (λ x. p (f x)) xs)
find_map p f [] = refl
find_map p f (x ∷ xs) = ⊎_elim
    (λ t. cond-true (p (f x)) (Some (f x)) (find p (map f xs)) t
    ∙ sym (ap (λ o. option_map f o) (cond-true (p (f x)) (Some x) (find (λ y. p (f y)) xs) t)))
    (λ e. cond-false (p (f x)) (Some (f x)) (find p (map f xs)) e
    ∙ (find_map p f xs
    ∙ sym (ap (λ o. option_map f o)
    (cond-false (p (f x)) (Some x) (find (λ y. p (f y)) xs) e))))
    (cases_Bool (p (f x)))
