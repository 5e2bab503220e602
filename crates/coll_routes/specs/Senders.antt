-- Which ranks send to a place, as the code has it.
use Rattle.std.specs.Prelude.{ℕ, Bool, false, not, ◌&&◌, ◌==◌, ◌+◌, nat_lt, if◌then◌else◌}
use Rattle.std.specs.Prelude.{Option, Some, None}
use Rattle.coll_routes.specs.declared.signature.Signature.{Signature}
use Rattle.coll_routes.specs.declared.signature.Signature.TheVariants.{Bcast, Gather, Gatherv}
use Rattle.coll_routes.specs.declared.signature.Signature.TheVariants.{Scatter, Scatterv, Allgather}
use Rattle.coll_routes.specs.declared.signature.Signature.TheVariants.{Allgatherv, Alltoall}
use Rattle.coll_routes.specs.declared.signature.Signature.TheVariants.{Alltoallv, Reduce, Allreduce}
use Rattle.coll_routes.specs.declared.signature.Signature.TheVariants.{ReduceScatter}
use Rattle.coll_routes.specs.declared.signature.Signature.TheVariants.{ReduceScatterBlock, Scan}
use Rattle.coll_routes.specs.declared.signature.Signature.TheVariants.{Exscan, NeighborAllgather}
use Rattle.coll_routes.specs.declared.signature.Signature.TheVariants.{NeighborAllgatherv}
use Rattle.coll_routes.specs.declared.signature.Signature.TheVariants.{NeighborAlltoall}
use Rattle.coll_routes.specs.declared.signature.Signature.TheVariants.{NeighborAlltoallv}
use Rattle.coll_routes.specs.declared.roll.Shape.{Shape}
use Rattle.coll_routes.specs.declared.lane.Source.{Source}
use Rattle.coll_routes.specs.Rolls.{neighbour_in}
use Rattle.coll_routes.specs.Lanes.{covers}

-- the block that comes from a source has element x of what rank i gave
abbrev pub comes : Option Source → (i x : ℕ) → Bool
comes (Some s) i x = s.from == i && covers (Some s.piece) x
comes None i x = false

-- ---- words of private contracts

-- the only rank that sends to place t of rank j, in a kind that doesn't reduce
unfoldable pub sender_by : Signature → Shape → (j t : ℕ) → Option ℕ
sender_by (Bcast r ty n) shape j t = if not (j == r) && t == 0 then Some r else None
sender_by (Gather r ty n) shape j t = if j == r then Some t else None
sender_by (Gatherv r ty) shape j t = if j == r then Some t else None
sender_by (Scatter r ty n) shape j t = if t == 0 then Some r else None
sender_by (Scatterv r ty) shape j t = if t == 0 then Some r else None
sender_by (Allgather ty n) shape j t = Some t
sender_by (Allgatherv ty) shape j t = Some t
sender_by (Alltoall ty n) shape j t = Some t
sender_by (Alltoallv ty) shape j t = Some t
sender_by (NeighborAllgather ty n) shape j t = neighbour_in shape.grid j t
sender_by (NeighborAllgatherv ty) shape j t = neighbour_in shape.grid j t
sender_by (NeighborAlltoall ty n) shape j t = neighbour_in shape.grid j t
sender_by (NeighborAlltoallv ty) shape j t = neighbour_in shape.grid j t
sender_by _ shape j t = None

-- the first rank that doesn't send to rank j, in a kind that reduces
unfoldable pub until_by : Signature → Shape → (j : ℕ) → ℕ
until_by (Reduce r op ty n) shape j = if j == r then shape.size else 0
until_by (Allreduce op ty n) shape j = shape.size
until_by (ReduceScatter op ty sizes) shape j = shape.size
until_by (ReduceScatterBlock op ty n) shape j = shape.size
until_by (Scan op ty n) shape j = j + 1
until_by (Exscan op ty n) shape j = j
until_by _ shape j = 0

-- rank i is the sender; where there is none, it is one of the first ranks, and t the first place
abbrev pub is_among : Option ℕ → (until i t : ℕ) → Bool
is_among (Some r) until i t = r == i
is_among None until i t = nat_lt i until && t == 0

-- rank i sends to place t of rank j what its lane has there
abbrev pub reaches_by : Signature → Shape → (i j t : ℕ) → Bool
reaches_by sig shape i j t = is_among (sender_by sig shape j t) (until_by sig shape j) i t
