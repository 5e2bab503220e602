-- What the code computes with.
use Rattle.std.specs.Prelude.{◌≡◌, ℕ, ◌*◌, ◌/◌, ◌%◌, ◌<◌, List, [], ◌∷◌, length, min, Option}
use Rattle.std.specs.Prelude.{None, slice_get, get_or, unwrap_or}
use Rattle.mpi_cart.specs.Grids.{Topology, volume, cells, neighbour, IsGrid}

-- the coordinates of a rank
abbrev pub cell_at : List ℕ → ℕ → List ℕ
cell_at dims r = unwrap_or (slice_get (cells dims) r) []

-- how far apart the ranks are that differ by one in a dimension
unfoldable pub strides_of : List ℕ → List ℕ
strides_of [] = []
strides_of (n ∷ dims) = volume dims ∷ strides_of dims

-- a table tells the neighbours of rank 0 slot by slot, then those of rank 1, and so on: of all
-- ranks, or as far as 65,536 entries go
pub record IsTable (g : Topology) (table : List (Option ℕ)) : Type 0 where
  pub long : length table ≡ min 65536 (volume g.dims * (2 * length g.dims))
  pub entries : (k : ℕ) → k < length table
      → get_or table k None ≡ neighbour g (k / (2 * length g.dims)) (k % (2 * length g.dims))

-- the fields of a grid agree
pub record IsLaid (g : Topology) (strides : List ℕ) (table : List (Option ℕ)) (size : ℕ) : Type 0
  where
    pub strides_are : strides ≡ strides_of g.dims
    pub table_is : IsTable g table
    pub size_is : size ≡ volume g.dims
    pub grid : IsGrid g
