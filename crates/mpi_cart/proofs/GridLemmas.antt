-- Coordinates and ranks are inverse to each other.
use Rattle.std.proofs.Common.{◌≡◌, ℕ, suc, ◌+◌, ◌*◌, ◌<◌, List, [], ◌∷◌, length, ◌∙◌, ap, sym, refl}
use Rattle.std.proofs.Common.{subst, arith, Bool, true, false, ◌&&◌, cond, not, Option, Some, None}
use Rattle.std.proofs.Common.{slice_get, unwrap_or, nat_eq, nat_lt}
use Rattle.std.specs.Prelude.{position}
use Rattle.std.specs.List.{position_or_len}
use Rattle.std.proofs.lemmas.Bool.{eqb-true}
use Rattle.std.proofs.lemmas.Bool.Decides.{nat_tests}
use Rattle.std.proofs.lemmas.Nat.{div-mul-add, mod-mul-add}
use Rattle.std.proofs.lemmas.Option.{slice_get_within}
use Rattle.mpi_cart.specs.Grids.{Topology, cells, volume, same_list, coords, rank_at}
use Rattle.mpi_cart.specs.Laws.{IsCell, row_major, CellsFillTheGrid, CoordinatesAreRowMajor}
use Rattle.mpi_cart.specs.Laws.{CoordinatesAndRanksAreInverse}
use Rattle.mpi_cart.proofs.CellLemmas.{digits, place_of, one_later, cell_has_digits, place_of-cell}
use Rattle.mpi_cart.proofs.CellLemmas.{digits_in_range, row_major-digits, row_major_below}
use Rattle.mpi_cart.proofs.CellLemmas.{length-cells}

pub row_major-cons : (n c : ℕ) (dims cs : List ℕ) →
    row_major (n ∷ dims) (c ∷ cs) ≡ c * volume dims + row_major dims cs
unfolding row_major
row_major-cons n c dims cs = refl

pub row_major-nil : row_major [] [] ≡ 0
unfolding row_major
row_major-nil = refl

-- std's word for the first place is the one that recurs
position_step : (here : Bool) (k n : ℕ) →
    cond (nat_lt (cond (not here) (1 + k) 0) (suc n)) (Some (cond (not here) (1 + k) 0)) None
    ≡ cond here (Some 0) (one_later (cond (nat_lt k n) (Some k) None))
position_step true k n = grind (arith, nat_tests)
position_step false k n = step (nat_lt k n) (nat_lt (1 + k) (suc n)) (grind (arith, nat_tests))
  where
    step : (b c : Bool) → c ≡ b → cond c (Some (1 + k)) None ≡ one_later (cond b (Some k) None)
    step true c e = ap (λ t. cond t (Some (1 + k)) None) e
    step false c e = ap (λ t. cond t (Some (1 + k)) None) e

pub position-place_of : {X : Type 0} (test : X → Bool) (xs : List X) →
    position test xs ≡ place_of test xs
position-place_of test [] = refl
position-place_of test (x ∷ xs) = position_step (test x) (position_or_len test xs) (length xs)
    ∙ ap (λ o. cond (test x) (Some 0) (one_later o)) (position-place_of test xs)

-- where the first place is, the test passes
pub record Passes {X : Type 0} (test : X → Bool) (xs : List X) (k : ℕ) : Type 0 where
  pub item : X
  pub there : slice_get xs k ≡ Some item
  pub passes : test item ≡ true

pub place_passes : {X : Type 0} (test : X → Bool) (xs : List X) (k : ℕ) →
    place_of test xs ≡ Some k → Passes test xs k
place_passes test [] k e = absurd (cc)
place_passes {X} test (x ∷ xs) k e =
    at (λ j. place_passes test xs j) (test x) (place_of test xs) refl refl e
  where
    at : ((j : ℕ) → place_of test xs ≡ Some j → Passes test xs j) → (b : Bool) (o : Option ℕ) →
        test x ≡ b → place_of test xs ≡ o → cond b (Some 0) (one_later o) ≡ Some k →
        Passes test (x ∷ xs) k
    at rest true o is was f = (let same : 0 ≡ k = cc in
        subst (Passes test (x ∷ xs)) same (record { item = x; there = refl; passes = is }))
    at rest false None is was f = absurd (cc)
    at rest false (Some j) is was f =
        let w = rest j was in
        let same : 1 + j ≡ k = cc in
        let next : suc j ≡ k = omega arith in
        subst (Passes test (x ∷ xs)) next
        (record { item = w.item; there = w.there; passes = w.passes })

pub same_list-true : (xs ys : List ℕ) → same_list xs ys ≡ true → xs ≡ ys
same_list-true [] [] h = refl
same_list-true [] (y ∷ ys) h = absurd (cc)
same_list-true (x ∷ xs) [] h = absurd (cc)
same_list-true (x ∷ xs) (y ∷ ys) h =
    at (same_list-true xs ys) (nat_eq x y) (same_list xs ys) refl refl h
  where
    at : (same_list xs ys ≡ true → xs ≡ ys) → (b c : Bool) → nat_eq x y ≡ b → same_list xs ys ≡ c →
        b && c ≡ true → x ∷ xs ≡ y ∷ ys
    at rest true true e f g = (λ i. eqb-true x y e i ∷ rest f i)
    at rest true false e f g = absurd (cc)
    at rest false c e f g = absurd (cc)

pub digits-row_major : (dims cs : List ℕ) → IsCell dims cs → digits dims (row_major dims cs) ≡ cs
unfolding digits row_major
digits-row_major [] [] h = refl
digits-row_major [] (c ∷ cs) h = absurd h
digits-row_major (n ∷ dims) [] h = absurd h
digits-row_major (n ∷ dims) (c ∷ cs) h =
    let below = row_major_below dims cs h.1 in
    λ i. div-mul-add c (volume dims) (row_major dims cs) below i
    ∷ ((λ j. digits dims (mod-mul-add c (volume dims) (row_major dims cs) below j))
    ∙ digits-row_major dims cs h.1) i

pub coords-digits : (g : Topology) (r : ℕ) → r < volume g.dims → coords g r ≡ digits g.dims r
coords-digits g r h = ap (λ o. unwrap_or o []) (cell_has_digits g.dims r h)

pub rank_at-cell : (g : Topology) (cs : List ℕ) → IsCell g.dims cs →
    rank_at g cs ≡ Some (row_major g.dims cs)
rank_at-cell g cs h =
    position-place_of (λ cell. same_list cell cs) (cells g.dims) ∙ place_of-cell g.dims cs h

pub coords_in_range : (g : Topology) (r : ℕ) → r < volume g.dims → IsCell g.dims (coords g r)
coords_in_range g r h =
    subst (IsCell g.dims) (sym (coords-digits g r h)) (digits_in_range g.dims r h)

pub rank_at-coords : (g : Topology) (r : ℕ) → r < volume g.dims → rank_at g (coords g r) ≡ Some r
rank_at-coords g r h =
    ap (rank_at g) (coords-digits g r h)
    ∙ (rank_at-cell g (digits g.dims r) (digits_in_range g.dims r h)
    ∙ ap Some (row_major-digits g.dims r h))

-- the rank that stands at coordinates
pub record StandsAt (g : Topology) (r : ℕ) (cs : List ℕ) : Type 0 where
  pub below : r < volume g.dims
  pub are : coords g r ≡ cs

pub stands_at : (g : Topology) (r : ℕ) (cs : List ℕ) → rank_at g cs ≡ Some r → StandsAt g r cs
stands_at g r cs e =
    let w = place_passes (λ cell. same_list cell cs) (cells g.dims) r
    (sym (position-place_of (λ cell. same_list cell cs) (cells g.dims)) ∙ e) in
    let inside : r < length (cells g.dims) = slice_get_within (cells g.dims) r w.item w.there in
    let many = length-cells g.dims in
    record {
      below = omega arith;
      are = ap (λ o. unwrap_or o []) w.there ∙ same_list-true w.item cs w.passes;
    }

pub cells_fill_the_grid : CellsFillTheGrid
cells_fill_the_grid = length-cells

pub coordinates_are_row_major : CoordinatesAreRowMajor
coordinates_are_row_major g r cs h = (
  (λ e. (
    subst (IsCell g.dims) e (coords_in_range g r h),
    ap (row_major g.dims) (sym e ∙ coords-digits g r h) ∙ row_major-digits g.dims r h,
  )),
  (λ w. coords-digits g r h ∙ (ap (digits g.dims) (sym w.1) ∙ digits-row_major g.dims cs w.0)),
)

pub coordinates_and_ranks_are_inverse : CoordinatesAndRanksAreInverse
coordinates_and_ranks_are_inverse g r cs = (
  (λ e. (let w = stands_at g r cs e in (w.below, w.are))),
  (λ w. ap (rank_at g) (sym w.1) ∙ rank_at-coords g r w.0),
)
