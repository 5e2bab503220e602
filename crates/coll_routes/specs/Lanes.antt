-- What goes to a place by pieces, as the code has it: all that a rank gave, or one block of it.
use Rattle.std.specs.Prelude.{ℕ, List, [], Bool, true, false, ◌&&◌, ◌+◌, nat_lt, nat_le}
use Rattle.std.specs.Prelude.{replicate, Option, Some, None}
use Rattle.std.specs.List.{list_any}
use Rattle.mpi_cart.specs.Grids.{below, opposite}
use Rattle.coll_routes.specs.declared.signature.Signature.{Signature}
use Rattle.coll_routes.specs.declared.signature.Signature.TheVariants.{Gather, Gatherv}
use Rattle.coll_routes.specs.declared.signature.Signature.TheVariants.{Scatter, Scatterv, Allgather}
use Rattle.coll_routes.specs.declared.signature.Signature.TheVariants.{Allgatherv, Alltoall}
use Rattle.coll_routes.specs.declared.signature.Signature.TheVariants.{Alltoallv, ReduceScatter}
use Rattle.coll_routes.specs.declared.signature.Signature.TheVariants.{ReduceScatterBlock}
use Rattle.coll_routes.specs.declared.signature.Signature.TheVariants.{NeighborAlltoall}
use Rattle.coll_routes.specs.declared.signature.Signature.TheVariants.{NeighborAlltoallv}
use Rattle.coll_routes.specs.declared.roll.Shape.{Shape}
use Rattle.coll_routes.specs.declared.lane.Piece.{Piece}
use Rattle.coll_routes.specs.declared.lane.Lane.{Lane}
use Rattle.coll_routes.specs.declared.lane.Lane.TheVariants.{Whole, Block}
use Rattle.coll_routes.specs.Rolls.{goes_by, in_block, slots}

-- element x lies in the piece
abbrev pub covers : Option Piece → ℕ → Bool
covers None x = false
covers (Some p) x = nat_le p.start x && nat_lt x (p.start + p.len)

-- what goes to place t of rank j of each rank that sends there
unfoldable pub lane_by : Signature → (j t : ℕ) → Lane
lane_by (Scatter r ty n) j t = Block j
lane_by (Scatterv r ty) j t = Block j
lane_by (Alltoall ty n) j t = Block j
lane_by (Alltoallv ty) j t = Block j
lane_by (ReduceScatter op ty sizes) j t = Block j
lane_by (ReduceScatterBlock op ty n) j t = Block j
lane_by (NeighborAlltoall ty n) j t = Block (opposite t)
lane_by (NeighborAlltoallv ty) j t = Block (opposite t)
lane_by _ j t = Whole

-- the sizes of the blocks that a rank gives, where it gives blocks
unfoldable pub sizes_by : Signature → Shape → (counts : List ℕ) → List ℕ
sizes_by (Scatter r ty n) shape counts = replicate shape.size n
sizes_by (Scatterv r ty) shape counts = counts
sizes_by (Alltoall ty n) shape counts = replicate shape.size n
sizes_by (Alltoallv ty) shape counts = counts
sizes_by (ReduceScatter op ty sizes) shape counts = sizes
sizes_by (ReduceScatterBlock op ty n) shape counts = replicate shape.size n
sizes_by (NeighborAlltoall ty n) shape counts = replicate (slots shape) n
sizes_by (NeighborAlltoallv ty) shape counts = counts
sizes_by _ shape counts = []

-- element x lies on the lane
abbrev pub holds : Lane → List ℕ → ℕ → Bool
holds Whole sizes x = true
holds (Block b) sizes x = in_block sizes b x

-- some of the elements given goes to place t of rank j
unfoldable pub sends_by : Signature → Shape → (counts : List ℕ) → (given i j t : ℕ) → Bool
sends_by sig shape counts given i j t =
    list_any (λ x. goes_by sig shape counts i x j t) (below given)

-- where a rank sends to one place of each, that place; the kinds between neighbours aside
unfoldable pub place_by : Signature → (i : ℕ) → ℕ
place_by (Gather r ty n) i = i
place_by (Gatherv r ty) i = i
place_by (Allgather ty n) i = i
place_by (Allgatherv ty) i = i
place_by (Alltoall ty n) i = i
place_by (Alltoallv ty) i = i
place_by _ i = 0
