-- What holds of all grids.
use Rattle.std.specs.Prelude.{◌≡◌, ◌↔◌, ℕ, ℤ, neg_ℤ, List, [], ◌∷◌, ◌+◌, ◌*◌, ◌<◌, ◌≤◌, length}
use Rattle.std.specs.Prelude.{Some, None}
use Rattle.mpi_cart.specs.Grids.{Topology, volume, cells, coords, rank_at, shifted, neighbour}
use Rattle.mpi_cart.specs.Grids.{opposite}

-- each coordinate is below its size, and there is one for each dimension
abbrev pub IsCell : List ℕ → List ℕ → Type 0
IsCell [] [] = Unit {0}
IsCell (n ∷ dims) (c ∷ cs) = (c < n) × IsCell dims cs
IsCell _ _ = ⊥

-- the row-major number of coordinates (MPI 4.1, 8.2)
unfoldable pub row_major : List ℕ → List ℕ → ℕ
row_major (n ∷ dims) (c ∷ cs) = c * volume dims + row_major dims cs
row_major _ _ = 0

-- there are as many cells as the product of the sizes
abbrev pub CellsFillTheGrid : Type 0
CellsFillTheGrid = (dims : List ℕ) → length (cells dims) ≡ volume dims

-- a rank's coordinates lie below the sizes and have the rank as their number in row-major order; no
-- other list does
abbrev pub CoordinatesAreRowMajor : Type 0
CoordinatesAreRowMajor = (g : Topology) (r : ℕ) (cs : List ℕ) → r < volume g.dims →
    (coords g r ≡ cs) ↔ (IsCell g.dims cs × (row_major g.dims cs ≡ r))

-- coordinates and ranks are inverse to each other
abbrev pub CoordinatesAndRanksAreInverse : Type 0
CoordinatesAndRanksAreInverse = (g : Topology) (r : ℕ) (cs : List ℕ) → (rank_at g cs ≡ Some r) ↔
    ((r < volume g.dims) × (coords g r ≡ cs))

-- a shift stays in the grid, and one as far the other way leads back
abbrev pub ShiftsLeadBack : Type 0
ShiftsLeadBack = (g : Topology) (r d q : ℕ) (z : ℤ) → r < volume g.dims → shifted g r d z ≡ Some q →
    (q < volume g.dims) × (shifted g q d (neg_ℤ z) ≡ Some r)

-- the negative and the positive neighbour are opposite: each is the other's neighbour in the
-- other's opposite slot
abbrev pub NeighboursAreOpposite : Type 0
NeighboursAreOpposite = (g : Topology) (r slot q : ℕ) → r < volume g.dims →
    neighbour g r slot ≡ Some q → (q < volume g.dims) × (neighbour g q (opposite slot) ≡ Some r)

-- a grid has two slots for each dimension, and nobody in a later one
abbrev pub NobodyPastTheLastSlot : Type 0
NobodyPastTheLastSlot =
    (g : Topology) (r slot : ℕ) → 2 * length g.dims ≤ slot → neighbour g r slot ≡ None
