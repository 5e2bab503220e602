-- From a rank to its coordinates by strides, and a step from one to another.
use Rattle.std.proofs.Common.{◌≡◌, ℕ, zero, suc, ◌+◌, ◌-◌, ◌*◌, ◌/◌, ◌%◌, ◌<◌, ◌≤◌, List, [], ◌∷◌}
use Rattle.std.proofs.Common.{length, get_or, set, drop, ◌∙◌, ap, sym, refl, arith, Option, Some}
use Rattle.std.proofs.Common.{None, slice_get, unwrap_or, option_and_then, false, IfSome}
use Rattle.std.specs.Prelude.{ℤ, pos, negsuc, ◌+ℤ◌, ◌≤ℤ◌, ◌^◌}
use Rattle.std.specs.Int.{w64}
use Rattle.std.proofs.lemmas.Int.{ints}
use mir.Val.{to_z, of_z}
use Rattle.std.proofs.Math.Nat.{mod-eq_of_lt, mul-add-div_right, mul-add-mod_self_right}
use Rattle.std.proofs.lemmas.Nat.{div_below, div-add-mod'}
use Rattle.std.proofs.lemmas.Option.{slice_get-get_or, slice_get_past}
use Rattle.mpi_cart.specs.Grids.{Topology, volume, coords, rank_at, coordinate, further, shifted}
use Rattle.mpi_cart.specs.Grids.{neighbour, opposite}
use Rattle.mpi_cart.specs.Laid.{strides_of, cell_at}
use Rattle.mpi_cart.specs.Laws.{NobodyPastTheLastSlot}
use Rattle.mpi_cart.proofs.CellLemmas.{digits, positive, cell_has_digits, in_range_at}
use Rattle.mpi_cart.proofs.CellLemmas.{digits_in_range, set_in_range, row_major-set}
use Rattle.mpi_cart.proofs.CellLemmas.{row_major_below}
use Rattle.mpi_cart.proofs.GridLemmas.{coords-digits, rank_at-cell}
use Rattle.mpi_cart.proofs.ShiftLemmas.{neighbours_are_opposite, shifts_lead_back}

pub length-strides : (dims : List ℕ) → length (strides_of dims) ≡ length dims
unfolding strides_of
length-strides [] = refl
length-strides (n ∷ dims) = ap suc (length-strides dims)

pub stride_at : (dims : List ℕ) (k : ℕ) → k < length dims →
    get_or (strides_of dims) k 0 ≡ volume (drop (suc k) dims)
unfolding strides_of
stride_at [] k h = absurd (omega arith)
stride_at (n ∷ dims) zero h = refl
stride_at (n ∷ dims) (suc k) h = stride_at dims k (omega arith)

-- the cells are so many blocks of one dimension's rows
pub record Blocks (dims : List ℕ) (d : ℕ) : Type 0 where
  pub blocks : ℕ
  pub are : volume dims ≡ blocks * get_or dims d 0 * get_or (strides_of dims) d 0

pub blocks_of : (dims : List ℕ) (d : ℕ) → d < length dims → Blocks dims d
unfolding strides_of
blocks_of [] d h = absurd (omega arith)
blocks_of (n ∷ dims) zero h = record { blocks = 1; are = omega arith }
blocks_of (n ∷ dims) (suc d) h =
    let w = blocks_of dims d (omega arith) in
    record { blocks = n * w.blocks; are = ap (λ v. n * v) w.are ∙ omega arith }

pub stride_positive : (dims : List ℕ) (r d : ℕ) → r < volume dims → d < length dims →
    0 < get_or (strides_of dims) d 0
stride_positive dims r d h g =
    let w = blocks_of dims d g in
    let are = w.are in
    positive (w.blocks * get_or dims d 0) (get_or (strides_of dims) d 0) r (omega arith)

-- whole blocks before a rank don't change its coordinate
skipped : (q k n s y : ℕ) → 0 < s → (q * (k * n * s) + y) / s % n ≡ y / s % n
skipped q k n s y h =
    ap (λ x. x / s % n) (let e : q * (k * n * s) + y ≡ (q * k * n) * s + y = omega arith in e)
    ∙ (ap (λ x. x % n) (mul-add-div_right h (q * k * n) y)
    ∙ mul-add-mod_self_right (q * k) n (y / s))

pub digit_is : (dims : List ℕ) (r d : ℕ) → r < volume dims → d < length dims →
    slice_get (digits dims r) d ≡ Some (r / get_or (strides_of dims) d 0 % get_or dims d 0)
unfolding digits strides_of
digit_is [] r d h g = absurd (omega arith)
digit_is (n ∷ dims) r zero h g =
    ap Some (sym (mod-eq_of_lt (div_below r (volume dims) n (positive n (volume dims) r h) h)))
digit_is (n ∷ dims) r (suc d) h g =
    let p : 0 < volume dims = positive n (volume dims) r h in
    let low : r % volume dims < volume dims = omega arith in
    let inside : d < length dims = omega arith in
    let w = blocks_of dims d inside in
    let s : 0 < get_or (strides_of dims) d 0 = stride_positive dims (r % volume dims) d low inside
    in
    let whole = div-add-mod' r (volume dims) in
    let same : r / volume dims * (w.blocks * get_or dims d 0 * get_or (strides_of dims) d 0) + r %
    volume dims ≡ r = ap (λ v. r / volume dims * v + r % volume dims) (sym w.are) ∙ whole in
    digit_is dims (r % volume dims) d low inside
    ∙ ap Some (sym (skipped (r / volume dims) w.blocks (get_or dims d 0)
    (get_or (strides_of dims) d 0) (r % volume dims) s)
    ∙ ap (λ x. x / get_or (strides_of dims) d 0 % get_or dims d 0) same)

pub coord_is : (dims : List ℕ) (r d : ℕ) → r < volume dims → d < length dims →
    slice_get (cell_at dims r) d ≡ Some (r / get_or (strides_of dims) d 0 % get_or dims d 0)
coord_is dims r d h inside =
    ap (λ o. slice_get (unwrap_or o []) d) (cell_has_digits dims r h) ∙ digit_is dims r d h inside

coord_below : (dims : List ℕ) (r d c : ℕ) → r < volume dims →
    slice_get (cell_at dims r) d ≡ Some c → c < get_or dims d 0
coord_below dims r d c h e = in_range_at dims (digits dims r) d c (digits_in_range dims r h)
    (ap (λ o. slice_get (unwrap_or o []) d) (sym (cell_has_digits dims r h)) ∙ e)

-- the same of strides that are those of the sizes
module _ (dims strides : List ℕ) (laid : strides ≡ strides_of dims) (d : ℕ)
    (inside : d < length dims) where
  pub stride_within : d < length strides
  stride_within = let long = length-strides dims in let same = ap length laid in omega arith

  pub stride_above : (r : ℕ) → r < volume dims → 0 < get_or strides d 0
  stride_above r h = rw laid (stride_positive dims r d h inside)

  pub size_above : (r : ℕ) → r < volume dims → 0 < get_or dims d 0
  size_above r h = (let w = coord_below dims r d _ h (coord_is dims r d h inside) in omega arith)

  pub coord_at : (r : ℕ) → r < volume dims →
      slice_get (cell_at dims r) d ≡ Some (r / get_or strides d 0 % get_or dims d 0)
  coord_at r h =
      coord_is dims r d h inside ∙ ap (λ l. Some (r / get_or l d 0 % get_or dims d 0)) (sym laid)

-- where a step to coordinate m of dimension d leads, c being the rank's own and s the stride
pub record Steps (g : Topology) (r d c m s : ℕ) : Type 0 where
  pub back : c * s ≤ r
  pub inside : r - c * s + m * s < volume g.dims
  pub is : rank_at g (set (coords g r) d m) ≡ Some (r - c * s + m * s)

pub step_is : (g : Topology) (r d c m s : ℕ) → r < volume g.dims → d < length g.dims →
    s ≡ get_or (strides_of g.dims) d 0 → slice_get (coords g r) d ≡ Some c → m < get_or g.dims d 0 →
    Steps g r d c m s
step_is g r d c m s h g_d e at low =
    let own : slice_get (digits g.dims r) d ≡ Some c = ap (λ cs. slice_get cs d)
    (sym (coords-digits g r h)) ∙ at in
    let stride : s ≡ volume (drop (suc d) g.dims) = e ∙ stride_at g.dims d g_d in
    let size = slice_get-get_or g.dims d 0 g_d in
    let range = set_in_range g.dims (digits g.dims r) d m (get_or g.dims d 0)
    (digits_in_range g.dims r h) size low in
    let whole = row_major-set g.dims r d m c h own in
    let none = row_major-set g.dims r d 0 c h own in
    let below = row_major_below g.dims (set (digits g.dims r) d m) range in
    let to : m * s ≡ m * volume (drop (suc d) g.dims) = ap (λ k. m * k) stride in
    let from : c * s ≡ c * volume (drop (suc d) g.dims) = ap (λ k. c * k) stride in
    record {
      back = omega arith;
      inside = omega arith;
      is = ap (λ cs. rank_at g (set cs d m)) (coords-digits g r h)
          ∙ (rank_at-cell g (set (digits g.dims r) d m) range ∙ ap Some (omega arith));
    }

pub shifted_past : (g : Topology) (r d : ℕ) (z : ℤ) → length g.dims ≤ d → shifted g r d z ≡ None
unfolding shifted
shifted_past g r d z h = ap (λ o. option_and_then (λ m. rank_at g (set (coords g r) d m))
    (further o (slice_get g.periods d) (slice_get (coords g r) d) z))
    (slice_get_past g.dims d h)

pub shifted_is : (g : Topology) (r d c : ℕ) (z : ℤ) (o : Option ℕ) →
    length g.periods ≡ length g.dims → d < length g.dims → slice_get (coords g r) d ≡ Some c →
    o ≡ coordinate (get_or g.dims d 0) (get_or g.periods d false) (pos c +ℤ z) →
    option_and_then (λ m. rank_at g (set (coords g r) d m)) o ≡ shifted g r d z
unfolding shifted
shifted_is g r d c z o same h e is =
    ap (option_and_then (λ m. rank_at g (set (coords g r) d m))) is
    ∙ sym (λ i. option_and_then (λ m. rank_at g (set (coords g r) d m))
    (further (slice_get-get_or g.dims d 0 h i) (slice_get-get_or g.periods d false
    (let z : d < length g.periods = omega arith in z) i) (e i) z))

-- 64 bits hold a coordinate and a displacement together
pub whole_sum : (n c : ℕ) (from z : ℤ) → c < n → n < 2 ^ 32 → from ≡ pos c →
    negsuc 2147483648 ≤ℤ z → z ≤ℤ pos 2147483648 →
    to_z w64 (of_z w64 (to_z w64 (of_z w64 from) +ℤ to_z w64 (of_z w64 z))) ≡ pos c +ℤ z
whole_sum n c from z low small is least most = omega (arith, ints)

pub neighbour_past : (g : Topology) (r slot : ℕ) → length g.dims ≤ slot / 2 →
    neighbour g r slot ≡ None
unfolding neighbour
neighbour_past g r slot h = shifted_past g r (slot / 2) _ h

pub nobody_past_the_last_slot : NobodyPastTheLastSlot
nobody_past_the_last_slot g r slot h = neighbour_past g r slot (omega arith)

-- what is known of a neighbour that is one
pub shifted_below : (g : Topology) (r d : ℕ) (z : ℤ) (o : Option ℕ) → r < volume g.dims →
    o ≡ shifted g r d z → IfSome o (λ q. q < volume g.dims)
shifted_below g r d z None h e = tt
shifted_below g r d z (Some q) h e = (shifts_lead_back g r d q z h (sym e)).0

pub neighbour_back : (g : Topology) (r slot : ℕ) (o : Option ℕ) → r < volume g.dims →
    o ≡ neighbour g r slot → IfSome o (λ q. neighbour g q (opposite slot) ≡ Some r)
neighbour_back g r slot None h e = tt
neighbour_back g r slot (Some q) h e = (neighbours_are_opposite g r slot q h (sym e)).1

pub ruleset neighbours = (neighbour_past, neighbour_back)
