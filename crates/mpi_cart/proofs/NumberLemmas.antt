-- From whole numbers to the rank that they name.
use Rattle.std.proofs.Common.{◌≡◌, ◌≢◌, ℕ, suc, ◌+◌, ◌*◌, ◌<◌, ◌≤◌, List, [], ◌∷◌, length, get_or}
use Rattle.std.proofs.Common.{drop, ◌∙◌, ap, sym, refl, subst, arith, Bool, true, false, Option}
use Rattle.std.proofs.Common.{Some, None, option_and_then, add-one}
use Rattle.std.specs.Prelude.{ℤ, pos}
use Rattle.std.proofs.Math.Seq.{drop-cons}
use Rattle.std.proofs.Math.Nat.{mul-le-mul_right}
use Rattle.std.proofs.lemmas.List.{drop_all}
use Rattle.mpi_cart.specs.Grids.{Topology, volume, coordinate, both, coordinates, rank_at}
use Rattle.mpi_cart.specs.Grids.{rank_named}
use Rattle.mpi_cart.specs.Laws.{IsCell, row_major}
use Rattle.mpi_cart.proofs.GridLemmas.{rank_at-cell, row_major-cons, row_major-nil}
use Rattle.mpi_cart.proofs.ShiftLemmas.{coordinate_names}
use Rattle.mpi_cart.proofs.VolumeLemmas.{all_positive, positive_parts, volume_positive}

-- the rank, from a number of rows on, a dimension at a time
pub numbered : ℕ → List ℕ → List Bool → List ℤ → Option ℕ
numbered r [] [] [] = Some r
numbered r (n ∷ dims) (periodic ∷ periods) (z ∷ zs) =
    option_and_then (λ c. numbered (r * n + c) dims periods zs) (coordinate n periodic z)
numbered r _ _ _ = None

pub numbered-cons : (r n : ℕ) (periodic : Bool) (z : ℤ) (dims : List ℕ) (periods : List Bool)
    (zs : List ℤ) (o : Option ℕ) → o ≡ coordinate n periodic z →
    numbered r (n ∷ dims) (periodic ∷ periods) (z ∷ zs)
    ≡ option_and_then (λ c. numbered (r * n + c) dims periods zs) o
unfolding numbered
numbered-cons r n periodic z dims periods zs o e =
    ap (option_and_then (λ c. numbered (r * n + c) dims periods zs)) (sym e)

pub numbered-nil : (r : ℕ) → numbered r [] [] [] ≡ Some r
unfolding numbered
numbered-nil r = refl

-- the number in so many rows
abbrev pub placed : ℕ → List ℕ → Option (List ℕ) → Option ℕ
placed r dims (Some cs) = Some (r * volume dims + row_major dims cs)
placed r dims None = None

placed-both : (r n c : ℕ) (dims : List ℕ) (o : Option (List ℕ)) →
    placed (r * n + c) dims o ≡ placed r (n ∷ dims) (both (Some c) o)
placed-both r n c dims None = refl
placed-both r n c dims (Some cs) = ap Some (let e = row_major-cons n c dims cs in omega arith)

numbered-placed : (r : ℕ) (dims : List ℕ) (periods : List Bool) (zs : List ℤ) →
    numbered r dims periods zs ≡ placed r dims (coordinates dims periods zs)
unfolding numbered
numbered-placed r [] [] [] = ap Some (let e = row_major-nil in omega arith)
numbered-placed r [] [] (z ∷ zs) = refl
numbered-placed r [] (p ∷ periods) zs = refl
numbered-placed r (n ∷ dims) [] zs = refl
numbered-placed r (n ∷ dims) (p ∷ periods) [] = refl
numbered-placed r (n ∷ dims) (p ∷ periods) (z ∷ zs) =
    at (λ c. numbered-placed (r * n + c) dims periods zs) (coordinate n p z)
  where
    at : ((c : ℕ) →
        numbered (r * n + c) dims periods zs
        ≡ placed (r * n + c) dims (coordinates dims periods zs)) → (o : Option ℕ) →
        option_and_then (λ c. numbered (r * n + c) dims periods zs) o
        ≡ placed r (n ∷ dims) (both o (coordinates dims periods zs))
    at rest None = refl
    at rest (Some c) = rest c ∙ placed-both r n c dims (coordinates dims periods zs)

pub coordinates_in_range : (dims : List ℕ) (periods : List Bool) (zs : List ℤ) (cs : List ℕ) →
    all_positive dims ≡ true → coordinates dims periods zs ≡ Some cs → IsCell dims cs
coordinates_in_range [] [] [] cs h e = (let same : [] ≡ cs = cc in subst (IsCell []) same tt)
coordinates_in_range [] [] (z ∷ zs) cs h e = absurd (cc)
coordinates_in_range [] (p ∷ periods) zs cs h e = absurd (cc)
coordinates_in_range (n ∷ dims) [] zs cs h e = absurd (cc)
coordinates_in_range (n ∷ dims) (p ∷ periods) [] cs h e = absurd (cc)
coordinates_in_range (n ∷ dims) (p ∷ periods) (z ∷ zs) cs h e =
    at (λ rest. coordinates_in_range dims periods zs rest (positive_parts n dims h).rest)
    (coordinate n p z) (coordinates dims periods zs) refl refl e
  where
    at : ((rest : List ℕ) → coordinates dims periods zs ≡ Some rest → IsCell dims rest) →
        (o : Option ℕ) (os : Option (List ℕ)) → coordinate n p z ≡ o →
        coordinates dims periods zs ≡ os → both o os ≡ Some cs → IsCell (n ∷ dims) cs
    at within None os is are f = absurd (cc)
    at within (Some c) None is are f = absurd (cc)
    at within (Some c) (Some rest) is are f =
        let same : c ∷ rest ≡ cs = cc in
        subst (IsCell (n ∷ dims)) same
        ((coordinate_names n p z c (positive_parts n dims h).first is).below, within rest are)

pub rank_named-numbered : (g : Topology) (zs : List ℤ) → all_positive g.dims ≡ true →
    rank_named g zs ≡ numbered 0 g.dims g.periods zs
unfolding rank_named
rank_named-numbered g zs h =
    at (coordinates g.dims g.periods zs) refl ∙ sym (numbered-placed 0 g.dims g.periods zs)
  where
    at : (o : Option (List ℕ)) → coordinates g.dims g.periods zs ≡ o →
        option_and_then (rank_at g) o ≡ placed 0 g.dims o
    at None e = refl
    at (Some cs) e = rank_at-cell g cs (coordinates_in_range g.dims g.periods zs cs h e)
        ∙ ap Some
        (let z : row_major g.dims cs ≡ 0 * volume g.dims + row_major g.dims cs = omega arith in z)

numbered_uneven : (r : ℕ) (dims : List ℕ) (periods : List Bool) (zs : List ℤ) →
    length zs ≢ length dims → numbered r dims periods zs ≡ None
unfolding numbered
numbered_uneven r [] [] [] h = absurd (h refl)
numbered_uneven r [] [] (z ∷ zs) h = refl
numbered_uneven r [] (p ∷ periods) zs h = refl
numbered_uneven r (n ∷ dims) [] zs h = refl
numbered_uneven r (n ∷ dims) (p ∷ periods) [] h = refl
numbered_uneven r (n ∷ dims) (p ∷ periods) (z ∷ zs) h =
    at (λ c. numbered_uneven (r * n + c) dims periods zs (λ e. h (ap suc e))) (coordinate n p z)
  where
    at : ((c : ℕ) → numbered (r * n + c) dims periods zs ≡ None) → (o : Option ℕ) →
        option_and_then (λ c. numbered (r * n + c) dims periods zs) o ≡ None
    at rest None = refl
    at rest (Some c) = rest c

pub rank_named_uneven : (g : Topology) (zs : List ℤ) → all_positive g.dims ≡ true →
    length zs ≢ length g.dims → rank_named g zs ≡ None
rank_named_uneven g zs h ne = rank_named-numbered g zs h ∙ numbered_uneven 0 g.dims g.periods zs ne

-- the rank of the first k numbers, and what the rest makes of it
pub record Named (g : Topology) (zs : List ℤ) (k rank : ℕ) : Type 0 where
  pub is : numbered rank (drop k g.dims) (drop k g.periods) (drop k zs) ≡ rank_named g zs
  pub low : (rank + 1) * volume (drop k g.dims) ≤ volume g.dims
  pub positive : all_positive (drop k g.dims) ≡ true

pub named_none : (g : Topology) (zs : List ℤ) → all_positive g.dims ≡ true → Named g zs 0 0
named_none g zs h =
    record { is = sym (rank_named-numbered g zs h); low = omega arith; positive = h }

module _ (g : Topology) (zs : List ℤ) (k rank : ℕ) (paired : length g.periods ≡ length g.dims)
    (even : length zs ≡ length g.dims) (h : k < length zs) (w : Named g zs k rank) where
  pub at_dims : drop k g.dims ≡ get_or g.dims k 0 ∷ drop (suc k) g.dims
  at_dims = drop-cons g.dims k 0 (omega arith)

  pub at_size : 0 < get_or g.dims k 0
  at_size = (positive_parts (get_or g.dims k 0) (drop (suc k) g.dims)
      (ap all_positive (sym at_dims) ∙ w.positive)).first

  named_at : (o : Option ℕ) →
      o ≡ coordinate (get_or g.dims k 0) (get_or g.periods k false) (get_or zs k (pos 0)) →
      option_and_then (λ c. numbered (rank * get_or g.dims k 0 + c) (drop (suc k) g.dims)
      (drop (suc k) g.periods) (drop (suc k) zs)) o ≡ rank_named g zs
  named_at o e =
      sym (numbered-cons rank (get_or g.dims k 0) (get_or g.periods k false) (get_or zs k (pos 0))
      (drop (suc k) g.dims) (drop (suc k) g.periods) (drop (suc k) zs) o e)
      ∙ ((λ i. numbered rank (sym at_dims i)
      (sym (drop-cons g.periods k false (let z : k < length g.periods = omega arith in z)) i)
      (sym (drop-cons zs k (pos 0) h) i))
      ∙ w.is)

  pub named_not : None
      ≡ coordinate (get_or g.dims k 0) (get_or g.periods k false) (get_or zs k (pos 0)) →
      rank_named g zs ≡ None
  named_not e = sym (named_at None e)

  pub named_more : (c : ℕ) →
      Some c ≡ coordinate (get_or g.dims k 0) (get_or g.periods k false) (get_or zs k (pos 0)) →
      c < get_or g.dims k 0 → Named g zs (k + 1) (rank * get_or g.dims k 0 + c)
  named_more c e below = rw add-one (record {
    is = named_at (Some c) e;
    low =
        (let here : (rank + 1) * volume (drop k g.dims) ≡ (rank + 1) *
        (get_or g.dims k 0 * volume (drop (suc k) g.dims)) = ap (λ l. (rank + 1) * volume l)
        at_dims in
        let rows : (rank * get_or g.dims k 0 + c + 1) * volume (drop (suc k) g.dims) ≤
        ((rank + 1) * get_or g.dims k 0) * volume (drop (suc k) g.dims) = mul-le-mul_right
        (volume (drop (suc k) g.dims)) (let z : rank * get_or g.dims k 0 + c + 1 ≤ (rank + 1) *
        get_or g.dims k 0 = omega arith in z) in
        let low = w.low in
        omega arith);
    positive = (positive_parts (get_or g.dims k 0) (drop (suc k) g.dims)
        (ap all_positive (sym at_dims) ∙ w.positive)).rest;
  })

-- no step passes the number of cells
pub named_low : (g : Topology) (zs : List ℤ) (k rank : ℕ) → Named g zs k rank → rank < volume g.dims
named_low g zs k rank w =
    let rest = volume_positive (drop k g.dims) w.positive in
    let rows : (rank + 1) * 1 ≤ (rank + 1) * volume (drop k g.dims) = mul-rows
    (volume (drop k g.dims)) rest in
    let low = w.low in
    omega arith
  where
    mul-rows : (v : ℕ) → 0 < v → (rank + 1) * 1 ≤ (rank + 1) * v
    mul-rows v p = grind arith

pub named_all : (g : Topology) (zs : List ℤ) (k rank : ℕ) → length g.periods ≡ length g.dims →
    length zs ≡ length g.dims → length zs ≤ k → Named g zs k rank → rank_named g zs ≡ Some rank
named_all g zs k rank paired even h w =
    sym w.is
    ∙ ((λ i. numbered rank (drop_all k g.dims (let z : length g.dims ≤ k = omega arith in z) i)
    (drop_all k g.periods (let z : length g.periods ≤ k = omega arith in z) i)
    (drop_all k zs h i))
    ∙ numbered-nil rank)
