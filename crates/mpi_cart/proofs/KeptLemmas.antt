-- Grids that are equal, and the grid of the dimensions kept.
use Rattle.std.proofs.Common.{◌≡◌, ℕ, ◌*◌, ◌≤◌, ◌↔◌, List, [], ◌∷◌, length, ◌∙◌, ap, sym, refl}
use Rattle.std.proofs.Common.{arith, Bool, true, false, ◌&&◌, nat_lt, nat_eq, suc}
use Rattle.std.specs.Prelude.{IsTrue}
use Rattle.std.specs.List.{items_where_true}
use Rattle.std.specs.Cmp.{booleans_Decides}
use Rattle.std.specs.Cmp.Lexicographic.{pointwise}
use Rattle.std.proofs.Math.Bool.{beq}
use Rattle.std.proofs.Math.Nat.{mul-le-mul_left, mul-le-mul_right}
use Rattle.std.proofs.lemmas.Bool.Decides.{Decides-eqb}
use Rattle.std.proofs.lemmas.Slice.Eq.{slice_eq-Decides}
use Rattle.mpi_cart.specs.Grids.{Topology, IsGrid, volume}
use Rattle.mpi_cart.proofs.VolumeLemmas.{all_positive, positive_parts, volume_positive}

-- grids are equal where their lists are
pub same_topology : (g h : Topology) (dims periods : Bool) → dims ≡ true →
    dims ≡ pointwise nat_eq g.dims h.dims → periods ≡ pointwise beq g.periods h.periods →
    IsTrue periods ↔ (g ≡ h)
same_topology g h dims periods same by_dims by_periods =
    let d = slice_eq-Decides Decides-eqb g.dims h.dims dims by_dims in
    let p = slice_eq-Decides booleans_Decides g.periods h.periods periods by_periods in (
      (λ t. λ i. record { dims = d.0 same i; periods = p.0 t i }),
      (λ e. p.1 (ap (λ (x : Topology). x.periods) e)),
    )

pub other_topology : (g h : Topology) (dims : Bool) → dims ≡ false →
    dims ≡ pointwise nat_eq g.dims h.dims → g ≡ h → IsTrue false
other_topology g h dims other by_dims e =
    let d = slice_eq-Decides Decides-eqb g.dims h.dims dims by_dims in
    sym other ∙ d.1 (ap (λ (x : Topology). x.dims) e)

length-kept : {X : Type 0} (keep : List Bool) (xs : List X) →
    length (items_where_true keep xs) ≤ length xs
length-kept [] xs = omega arith
length-kept (b ∷ keep) [] = omega arith
length-kept (true ∷ keep) (x ∷ xs) = (let rest = length-kept keep xs in omega arith)
length-kept (false ∷ keep) (x ∷ xs) = (let rest = length-kept keep xs in omega arith)

pub kept_alike : {X Y : Type 0} (keep : List Bool) (xs : List X) (ys : List Y) →
    length xs ≡ length ys → length (items_where_true keep xs) ≡ length (items_where_true keep ys)
kept_alike [] xs ys e = refl
kept_alike (b ∷ keep) [] [] e = refl
kept_alike (b ∷ keep) [] (y ∷ ys) e = absurd (omega arith)
kept_alike (b ∷ keep) (x ∷ xs) [] e = absurd (omega arith)
kept_alike (true ∷ keep) (x ∷ xs) (y ∷ ys) e = ap suc (kept_alike keep xs ys (omega arith))
kept_alike (false ∷ keep) (x ∷ xs) (y ∷ ys) e = kept_alike keep xs ys (omega arith)

kept_positive : (keep : List Bool) (dims : List ℕ) → all_positive dims ≡ true →
    all_positive (items_where_true keep dims) ≡ true
kept_positive [] dims h = refl
kept_positive (b ∷ keep) [] h = refl
kept_positive (true ∷ keep) (n ∷ dims) h =
    let w = positive_parts n dims h in
    let first : nat_lt 0 n ≡ true = (let p = w.first in grind arith) in
    (λ i. first i && kept_positive keep dims w.rest i)
kept_positive (false ∷ keep) (n ∷ dims) h = kept_positive keep dims (positive_parts n dims h).rest

kept_volume : (keep : List Bool) (dims : List ℕ) → all_positive dims ≡ true →
    volume (items_where_true keep dims) ≤ volume dims
kept_volume [] dims h = volume_positive dims h
kept_volume (b ∷ keep) [] h = omega arith
kept_volume (true ∷ keep) (n ∷ dims) h =
    mul-le-mul_left n (kept_volume keep dims (positive_parts n dims h).rest)
kept_volume (false ∷ keep) (n ∷ dims) h =
    let w = positive_parts n dims h in
    let rest = kept_volume keep dims w.rest in
    let first = w.first in
    let more : 1 * volume dims ≤ n * volume dims = mul-le-mul_right (volume dims)
    (let z : 1 ≤ n = omega arith in z) in
    omega arith

pub kept_is_grid : (keep : List Bool) (dims : List ℕ) (periods : List Bool) →
    IsGrid (record { dims = dims; periods = periods }) →
    IsGrid (record { dims = items_where_true keep dims; periods = items_where_true keep periods })
kept_is_grid keep dims periods w = record {
  paired = kept_alike keep periods dims w.paired;
  few = (let less = length-kept keep dims in let few = w.few in omega arith);
  positive = kept_positive keep dims w.positive;
  small = (let less = kept_volume keep dims w.positive in let small = w.small in omega arith);
}
