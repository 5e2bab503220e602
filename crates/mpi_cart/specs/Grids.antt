-- Cartesian grids: coordinates, shifts and neighbours. (MPI 4.1, chapter 8.)
use Rattle.std.specs.Prelude.{◌≡◌, ℕ, ℤ, pos, negsuc, ◌+ℤ◌, List, [], ◌∷◌, Bool, true, false, ◌&&◌}
use Rattle.std.specs.Prelude.{◌==◌, ◌+◌, ◌-◌, ◌*◌, ◌/◌, ◌%◌, ◌^◌, ◌<◌, ◌≤◌, length, map, not}
use Rattle.std.specs.Prelude.{slice_get, slice_set, Option, Some, None, if◌then◌else◌, unwrap_or}
use Rattle.std.specs.Prelude.{unsigned_abs, nat_lt, flat_map, option_and_then, position}
use Rattle.std.specs.List.{range_with_len, items_where_true, list_all}
use Rattle.std.specs.Int.{int_rem_euclid}

-- the size of each dimension, and whether it is periodic (8.5.1)
pub record Topology : Type 0 where
  pub dims : List ℕ
  pub periods : List Bool

abbrev pub grid_of : List ℕ → List Bool → Topology
grid_of dims periods = record { dims = dims; periods = periods }

-- the product of the sizes
abbrev pub volume : List ℕ → ℕ
volume [] = 1
volume (n ∷ dims) = n * volume dims

-- the most dimensions (own rule)
abbrev pub dimensions_limit : ℕ
dimensions_limit = 8

-- what holds of every grid: no dimension has size 0 and there are at most so many (own rules), and
-- ranks fit 32 bits
pub record IsGrid (g : Topology) : Type 0 where
  pub paired : length g.periods ≡ length g.dims
  pub few : length g.dims ≤ dimensions_limit
  pub positive : list_all (nat_lt 0) g.dims ≡ true
  pub small : volume g.dims < 2 ^ 32

-- the numbers below n
abbrev pub below : ℕ → List ℕ
below n = range_with_len 0 n

-- all lists of coordinates, each below its size, in row-major order (8.2): a grid of no dimension
-- has one
unfoldable pub cells : List ℕ → List (List ℕ)
cells [] = [] ∷ []
cells (n ∷ dims) = flat_map (λ c. map (λ rest. c ∷ rest) (cells dims)) (below n)

-- the coordinates of a rank
abbrev pub coords : Topology → ℕ → List ℕ
coords g r = unwrap_or (slice_get (cells g.dims) r) []

abbrev pub same_list : List ℕ → List ℕ → Bool
same_list [] [] = true
same_list (x ∷ xs) (y ∷ ys) = x == y && same_list xs ys
same_list _ _ = false

-- the rank at these coordinates
abbrev pub rank_at : Topology → List ℕ → Option ℕ
rank_at g cs = position (λ cell. same_list cell cs) (cells g.dims)

-- the coordinate that a whole number names in a dimension of size n: it wraps where the dimension
-- is periodic, and else names none outside (8.5.5)
abbrev pub coordinate : ℕ → Bool → ℤ → Option ℕ
coordinate n true z = Some (unsigned_abs (int_rem_euclid z (pos n)))
coordinate n false (pos c) = if nat_lt c n then Some c else None
coordinate n false (negsuc _) = None

abbrev pub both : Option ℕ → Option (List ℕ) → Option (List ℕ)
both (Some c) (Some cs) = Some (c ∷ cs)
both _ _ = None

-- the coordinates that whole numbers name, one for each dimension
abbrev pub coordinates : List ℕ → List Bool → List ℤ → Option (List ℕ)
coordinates [] [] [] = Some []
coordinates (n ∷ dims) (periodic ∷ periods) (z ∷ zs) =
    both (coordinate n periodic z) (coordinates dims periods zs)
coordinates _ _ _ = None

-- the rank that whole numbers name (8.5.5)
unfoldable pub rank_named : Topology → List ℤ → Option ℕ
rank_named g zs = option_and_then (rank_at g) (coordinates g.dims g.periods zs)

-- the coordinate z further than c, in a dimension of size n
abbrev pub further : Option ℕ → Option Bool → Option ℕ → ℤ → Option ℕ
further (Some n) (Some periodic) (Some c) z = coordinate n periodic (pos c +ℤ z)
further _ _ _ _ = None

-- the rank whose coordinate in dimension d is z further, the others being those of r (8.5.6)
unfoldable pub shifted : Topology → ℕ → ℕ → ℤ → Option ℕ
shifted g r d z =
    let c = further (slice_get g.dims d) (slice_get g.periods d) (slice_get (coords g r) d) z in
    option_and_then (λ m. rank_at g (slice_set (coords g r) d m)) c

-- slot 2d leads to the neighbour one less in dimension d, slot 2d + 1 to the one more (8.6)
unfoldable pub neighbour : Topology → ℕ → ℕ → Option ℕ
neighbour g r slot = shifted g r (slot / 2) (if slot % 2 == 0 then negsuc 0 else pos 1)

-- the slot of the same dimension that leads the other way
abbrev pub opposite : ℕ → ℕ
opposite slot = if slot % 2 == 0 then slot + 1 else slot - 1

-- the grid of the dimensions kept (8.5.7)
abbrev pub kept : List Bool → Topology → Topology
kept keep g =
    record { dims = items_where_true keep g.dims; periods = items_where_true keep g.periods }

-- the items of the dimensions that are not kept
abbrev pub dropped : {X : Type 0} → List Bool → List X → List X
dropped keep xs = items_where_true (map not keep) xs
