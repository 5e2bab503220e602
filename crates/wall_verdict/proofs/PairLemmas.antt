-- A search through all pairs of numbers below n, the first number first.
use Rattle.std.proofs.Common.{◌≡◌, ℕ, zero, suc, ◌+◌, ◌<◌, Bool, true, false, List, [], ◌∷◌}
use Rattle.std.proofs.Common.{◌++◌, Option, Some, None, refl, sym, ap, ◌∙◌, subst, arith, map, find}
use Rattle.std.proofs.Common.{flat_map, ◌⊎◌, inl, inr, ⊎_elim, add-one}
use Rattle.std.specs.Option.{option_or, option_map}
use Rattle.std.proofs.lemmas.Bool.{cases_Bool, cond-true}
use Rattle.std.proofs.lemmas.List.Folds.{find-append}
use Rattle.std.proofs.lemmas.Grind.{flat_map-append}
use Rattle.mpi_cart.specs.Grids.{below}
use Rattle.wall_verdict.proofs.BelowLemmas.{below_split, find_none_more, find_found, find_map}
use Rattle.wall_verdict.proofs.BelowLemmas.{rows_none, rows_found}

---- A search that finds nothing.

or_none : {X : Type 0} (a b : Option X) → option_or a b ≡ None → (a ≡ None) × (b ≡ None)
or_none None b e = (refl, e)
or_none (Some x) b e = absurd (cc)

none_there : {X : Type 0} (p : X → Bool) (xs ys zs : List X) → find p (xs ++ (ys ++ zs)) ≡ None →
    find p ys ≡ None
none_there p xs ys zs e =
    let first = or_none (find p xs) (find p (ys ++ zs)) (sym (find-append p xs (ys ++ zs)) ∙ e) in
    (or_none (find p ys) (find p zs) (sym (find-append p ys zs) ∙ first.1)).0

pub none_at : (p : ℕ → Bool) (n i : ℕ) → i < n → find p (below n) ≡ None → p i ≡ false
none_at p n i h e =
    let s = below_split n i h in
    let here : find p (i ∷ []) ≡ None = none_there p (below i) (i ∷ []) s.0
    (sym (ap (λ xs. find p xs) s.1) ∙ e) in
    ⊎_elim (λ t. let some = sym (cond-true (p i) (Some i) None t) ∙ here in absurd (cc)) (λ f. f)
    (cases_Bool (p i))

pub none_below : (p : ℕ → Bool) (n : ℕ) → ((i : ℕ) → i < n → p i ≡ false) → find p (below n) ≡ None
none_below p zero h = refl
none_below p (suc n) h = subst (λ m. find p (below m) ≡ None) (add-one n)
    (find_none_more p n (none_below p n (λ i lt. h i (omega arith))) (h n (omega arith)))

-- what a search has found: a number that passes, and none below it does
pub record IsFirst (p : ℕ → Bool) (n i : ℕ) : Type 0 where
  pub within : i < n
  pub passes : p i ≡ true
  pub none : find p (below i) ≡ None
  pub here : find p (below n) ≡ Some i

abbrev pub Searched : (ℕ → Bool) → ℕ → Type 0
Searched p n = (find p (below n) ≡ None) ⊎ ((i : ℕ) × IsFirst p n i)

pub search_below : (p : ℕ → Bool) (n : ℕ) → Searched p n
search_below p zero = inl refl
search_below p (suc n) = subst (λ m. Searched p m) (add-one n) (⊎_elim
    (λ none. ⊎_elim
    (λ t. inr (
      n,
      record {
        within = omega arith;
        passes = t;
        none = none;
        here = find_found p (n + 1) n (omega arith) none t;
      },
    ))
    (λ f. inl (find_none_more p n none f))
    (cases_Bool (p n)))
    (λ found. let low = found.1.within in
    inr (
      found.0,
      record {
        within = omega arith;
        passes = found.1.passes;
        none = found.1.none;
        here =
            find_found p (n + 1) found.0 (omega arith) found.1.none found.1.passes;
      },
    ))
    (search_below p n))

---- The first pair that passes.

abbrev pub row : ℕ → ℕ → List (ℕ × ℕ)
row n j = map (λ i. (j, i)) (below n)

abbrev pub test : (ℕ → ℕ → Bool) → ℕ × ℕ → Bool
test P pair = P pair.0 pair.1

-- the pairs whose first number is below m
abbrev pub found_in : (ℕ → ℕ → Bool) → ℕ → ℕ → Option (ℕ × ℕ)
found_in P n m = find (test P) (flat_map (row n) (below m))

row_is : (P : ℕ → ℕ → Bool) (n j : ℕ) (o : Option ℕ) → o ≡ find (P j) (below n) →
    find (test P) (row n j) ≡ option_map (λ i. (j, i)) o
row_is P n j o e =
    find_map (test P) (λ i. (j, i)) (below n) ∙ ap (λ r. option_map (λ i. (j, i)) r) (sym e)

pub pairs_none : (P : ℕ → ℕ → Bool) (n j : ℕ) → found_in P n j ≡ None →
    None ≡ find (P j) (below n) → found_in P n (j + 1) ≡ None
pairs_none P n j none e = rows_none (test P) (row n) j none (row_is P n j None e)

pub pairs_found : (P : ℕ → ℕ → Bool) (n m j i : ℕ) → j < m → found_in P n j ≡ None →
    Some i ≡ find (P j) (below n) → found_in P n m ≡ Some (j, i)
pairs_found P n m j i h none e =
    rows_found (test P) (row n) m j (j, i) h none (row_is P n j (Some i) e)

map_none : {X Y : Type 0} (f : X → Y) (o : Option X) → option_map f o ≡ None → o ≡ None
map_none f None e = refl
map_none f (Some x) e = absurd (cc)

-- no pair passes
pub spared : (P : ℕ → ℕ → Bool) (n m : ℕ) → found_in P n m ≡ None → (j i : ℕ) → j < m → i < n →
    P j i ≡ false
spared P n m none j i hj hi =
    let s = below_split m j hj in
    let rows : find (test P) (flat_map (row n) (below j) ++ (row n j ++ flat_map (row n) s.0)) ≡
    None =
    sym (ap (λ xs. find (test P) (flat_map (row n) xs)) s.1
    ∙ ap (λ xs. find (test P) xs) (flat_map-append (row n) (below j) (j ∷ s.0)))
    ∙ none in
    let mine = none_there (test P) (flat_map (row n) (below j)) (row n j) (flat_map (row n) s.0)
    rows in
    none_at (P j) n i hi (map_none (λ (k : ℕ). (j, k)) (find (P j) (below n))
    (sym (find_map (test P) (λ (k : ℕ). (j, k)) (below n)) ∙ mine))

pub none_found : (P : ℕ → ℕ → Bool) (n m : ℕ) → ((j i : ℕ) → j < m → i < n → P j i ≡ false) →
    found_in P n m ≡ None
none_found P n zero h = refl
none_found P n (suc m) h = subst (λ k. found_in P n k ≡ None) (add-one m)
    (pairs_none P n m (none_found P n m (λ j i lt hi. h j i (omega arith) hi))
    (sym (none_below (P m) n (λ i hi. h m i (omega arith) hi))))

-- a pair that passes, and none before it does
pub record IsFirstPair (P : ℕ → ℕ → Bool) (n m j i : ℕ) : Type 0 where
  pub receiver : j < m
  pub giver : i < n
  pub passes : P j i ≡ true
  pub rows : found_in P n j ≡ None
  pub row : find (P j) (below i) ≡ None
  pub here : found_in P n m ≡ Some (j, i)

abbrev pub SearchedPairs : (ℕ → ℕ → Bool) → ℕ → ℕ → Type 0
SearchedPairs P n m = (found_in P n m ≡ None) ⊎ ((j : ℕ) × (i : ℕ) × IsFirstPair P n m j i)

pub search_pairs : (P : ℕ → ℕ → Bool) (n m : ℕ) → SearchedPairs P n m
search_pairs P n zero = inl refl
search_pairs P n (suc m) = subst (λ k. SearchedPairs P n k) (add-one m) (⊎_elim
    (λ none. ⊎_elim
    (λ row_none. inl (pairs_none P n m none (sym row_none)))
    (λ one. inr (
      m,
      one.0,
      record {
        receiver = omega arith;
        giver = one.1.within;
        passes = one.1.passes;
        rows = none;
        row = one.1.none;
        here = pairs_found P n (m + 1) m one.0 (omega arith) none (sym one.1.here);
      },
    ))
    (search_below (P m) n))
    (λ found. again found.0 found.1 found.2)
    (search_pairs P n m))
  where
    first : (j i : ℕ) → IsFirstPair P n m j i → Some i ≡ find (P j) (below n)
    first j i f = sym (find_found (P j) n i f.giver f.row f.passes)

    again : (j i : ℕ) → IsFirstPair P n m j i → SearchedPairs P n (m + 1)
    again j i f = let low = f.receiver in
        inr (
          j,
          i,
          record {
            receiver = omega arith;
            giver = f.giver;
            passes = f.passes;
            rows = f.rows;
            row = f.row;
            here = pairs_found P n (m + 1) j i (omega arith) f.rows (first j i f);
          },
        )
