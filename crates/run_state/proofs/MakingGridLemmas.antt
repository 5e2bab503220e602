-- Grids that are laid over communicators, and cut.
use Rattle.std.proofs.Common.{◌≡◌, ℕ, ◌<◌, ◌≤◌, List, [], ◌∷◌, length, refl, sym, ap, ◌∙◌, subst}
use Rattle.std.proofs.Common.{Bool, true, false, Option, Some, None, map, cond, is_none}
use Rattle.std.proofs.Common.{⊎_elim}
use Rattle.std.specs.Prelude.{◌==◌, nat_lt}
use Rattle.std.specs.List.{list_all}
use Rattle.std.proofs.lemmas.Bool.{cases_Bool, cond-false, false≢true, and_from, eq-eqb, eqb-true}
use Rattle.std.proofs.lemmas.Bool.{lt-ltb, cases_lt}
use Rattle.std.proofs.lemmas.List.FromFn.{length-range_with_len}
use Rattle.mpi_comm.specs.Comms.{is_subgroup, subset_groups}
use Rattle.mpi_cart.specs.declared.fault.GridFault.TheVariants.{BadDims, TooLarge}
use Rattle.mpi_cart.specs.Grids.{Topology, volume, below, kept}
use Rattle.mpi_cart.specs.Faults.{first_fault, are_bad_dims}
use Rattle.coll_routes.specs.declared.roll.Shape.{Shape}
use Rattle.coll_routes.specs.Fit.{IsSized, IsSizedGrid}
use Rattle.run_model.specs.Comms.{Comm, shape_of, with_grid, subgrids, grid_parts}
use Rattle.run_state.specs.Making.{is_kept}
use Rattle.run_state.proofs.PartLemmas.{lowest_subgroup, part_sizes, parts_subgroups}
use Rattle.run_state.proofs.MakingLemmas.{all_at}

-- ## a grid over the lowest ranks

dims_fit : (bad large : Bool) → cond bad (Some BadDims) (cond large (Some TooLarge) None) ≡ None →
    large ≡ false
dims_fit true large e = absurd (cc)
dims_fit false true e = absurd (cc)
dims_fit false false e = refl

pub grid_fits : (dims : List ℕ) (periods : List Bool) (size : ℕ) →
    first_fault dims periods size ≡ None → volume dims ≤ size
grid_fits dims periods size none = ⊎_elim
    (λ (low : size < volume dims). absurd (false≢true (sym
    (dims_fit (are_bad_dims dims periods) (nat_lt size (volume dims)) none)
    ∙ lt-ltb size (volume dims) low)))
    (λ (high : volume dims ≤ size). high)
    (cases_lt size (volume dims))

module _ {A : Type 0} (xs : List A) (f : A → List ℕ) (n : ℕ) (one : map f xs ≡ below n ∷ []) where
  pub one_size : (v : ℕ) → n ≡ v → list_all (λ x. length (f x) == v) xs ≡ true
  one_size v is =
      all_at xs f v ∙ (ap (λ lists. list_all (λ list. length list == v) lists) one
      ∙ and_from (length (below n) == v) true
      (eq-eqb (length (below n)) v (length-range_with_len 0 n ∙ is)) refl)

  pub one_subgroup : (size : ℕ) → n ≤ size → list_all (is_subgroup size) (map f xs) ≡ true
  one_subgroup size le = ap (λ lists. list_all (is_subgroup size) lists) one
      ∙ and_from (is_subgroup size (below n)) true (lowest_subgroup size n le) refl

-- ## a grid that is cut

pub kept_length : (keep : List Bool) (g : Topology) → is_kept keep (Some g) ≡ true →
    length keep ≡ length g.dims
kept_length keep g is = ⊎_elim
    (λ t. eqb-true (length keep) (length g.dims) t)
    (λ f. absurd (false≢true (sym (ap (λ o. is_none o)
    (cond-false (length keep == length g.dims) None (Some BadDims) f)) ∙ is)))
    (cases_Bool (length keep == length g.dims))

pub kept_some : (keep : List Bool) (grid : Option Topology) → grid ≡ None →
    is_kept keep grid ≡ true → ⊥
kept_some keep grid none is = false≢true (sym (ap (λ o. is_kept keep o) none) ∙ is)

-- the grid of a communicator is that of its shape
pub grid_found : (shape : Shape) (found : Comm) (grid : Option Topology) →
    shape ≡ shape_of found → shape.grid ≡ grid → found.grid ≡ grid
grid_found shape found grid same is = sym (ap (λ (s : Shape). s.grid) same) ∙ is

pub found_sized : (found : Comm) (g : Topology) → IsSized (shape_of found) →
    found.grid ≡ Some g → volume g.dims ≡ length found.members
found_sized found g sized is =
    subst (λ grid. IsSizedGrid (length found.members) grid) is sized

module _ {A : Type 0} (xs : List A) (f : A → List ℕ) (g : Topology) (keep : List Bool)
    (parts : map f xs ≡ grid_parts g keep) where
  pub cut_sizes : (part : Topology) → part ≡ kept keep g → length keep ≡ length g.dims →
      list_all (λ x. length (f x) == volume part.dims) xs ≡ true
  cut_sizes part is long =
      all_at xs f (volume part.dims)
      ∙ ((λ i. list_all (λ list. length list == volume (is i).dims) (parts i))
      ∙ part_sizes g keep long)

  pub cut_subgroups : (size : ℕ) → volume g.dims ≤ size →
      list_all (is_subgroup size) (map f xs) ≡ true
  cut_subgroups size le =
      ap (λ lists. list_all (is_subgroup size) lists) parts ∙ parts_subgroups g keep size le

  pub cut_comms : (part : Topology) → part ≡ kept keep g → (found : Comm) → found.grid ≡ Some g →
      with_grid (Some part) (subset_groups (map f xs) found.members)
      ≡ subgrids found.grid keep found.members
  cut_comms part is found grid = (λ i.
      with_grid (Some (is i)) (subset_groups (parts i) found.members))
      ∙ ap (λ o. subgrids o keep found.members) (sym grid)
