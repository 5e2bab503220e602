-- Journeys: which element of which rank goes where. (MPI 4.1, chapters 6 and 8.)
use Rattle.std.specs.Prelude.{ℕ, List, [], Bool, false, not, ◌&&◌, ◌==◌, ◌+◌, ◌*◌, length}
use Rattle.std.specs.Prelude.{slice_get, Option, Some, None, nat_lt, nat_le, sum, take, replicate}
use Rattle.std.specs.Prelude.{if◌then◌else◌, is_some, is_none}
use Rattle.std.specs.List.{list_all, list_any}
use Rattle.wall_labels.specs.declared.label.Label.{Label}
use Rattle.mpi_cart.specs.Grids.{Topology, below, neighbour, opposite}
use Rattle.coll_routes.specs.declared.signature.Signature.{Signature}
use Rattle.coll_routes.specs.declared.signature.Signature.TheVariants.{Bcast, Gather, Gatherv}
use Rattle.coll_routes.specs.declared.signature.Signature.TheVariants.{Scatter, Scatterv, Allgather}
use Rattle.coll_routes.specs.declared.signature.Signature.TheVariants.{Allgatherv, Alltoall}
use Rattle.coll_routes.specs.declared.signature.Signature.TheVariants.{Alltoallv, Reduce, Allreduce}
use Rattle.coll_routes.specs.declared.signature.Signature.TheVariants.{ReduceScatter}
use Rattle.coll_routes.specs.declared.signature.Signature.TheVariants.{ReduceScatterBlock, Scan}
use Rattle.coll_routes.specs.declared.signature.Signature.TheVariants.{Exscan, NeighborAllgather}
use Rattle.coll_routes.specs.declared.signature.Signature.TheVariants.{NeighborAllgatherv}
use Rattle.coll_routes.specs.declared.signature.Signature.TheVariants.{NeighborAlltoall}
use Rattle.coll_routes.specs.declared.signature.Signature.TheVariants.{NeighborAlltoallv}
use Rattle.coll_routes.specs.declared.statement.Own.{Own}
use Rattle.coll_routes.specs.declared.statement.Own.TheVariants.{Counts}
use Rattle.coll_routes.specs.declared.statement.Stated.{Stated}
use Rattle.coll_routes.specs.declared.roll.Shape.{Shape}
use Rattle.coll_routes.specs.declared.roll.Roll.{Roll}
use Rattle.coll_routes.specs.Signatures.{numbers, flags, is_neighbourly}

-- ## what each rank has stated

abbrev pub counts_in : Own → List ℕ
counts_in (Counts counts) = counts
counts_in _ = []

-- how many items the lists of a statement have
abbrev pub listed : Stated → ℕ
listed s = length (numbers s.sig) + length (flags s.sig) + length (counts_in s.own)

-- each rank has something in its row
abbrev pub is_full : {A : Type 0} → List (Option A) → Bool
is_full rows = list_all is_some rows

-- the statement in a row of the list
abbrev pub stated_in : Option (Option Stated) → Option Stated
stated_in (Some row) = row
stated_in None = None

abbrev pub given_in : Option Stated → ℕ
given_in (Some s) = s.given
given_in None = 0

abbrev pub label_in : Option Stated → Option Label
label_in (Some s) = s.label
label_in None = None

abbrev pub barred_in : Option Stated → Bool
barred_in (Some s) = s.barred
barred_in None = false

abbrev pub own_counts_in : Option Stated → List ℕ
own_counts_in (Some s) = counts_in s.own
own_counts_in None = []

-- what rank i stated, if it has posted
abbrev pub stated_by : Roll → ℕ → Option Stated
stated_by roll i = stated_in (slice_get roll.stated i)

-- how many elements rank i gave, barred or not
abbrev pub given : Roll → ℕ → ℕ
given roll i = given_in (stated_by roll i)

-- the label of what rank i gave
abbrev pub label_of : Roll → ℕ → Option Label
label_of roll i = label_in (stated_by roll i)

-- the star rule barred the post of rank i
abbrev pub is_barred : Roll → ℕ → Bool
is_barred roll i = barred_in (stated_by roll i)

abbrev pub ranks : Roll → List ℕ
ranks roll = below roll.shape.size

-- ## neighbours in the shape

abbrev pub slots_in : Option Topology → ℕ
slots_in (Some g) = 2 * length g.dims
slots_in None = 0

-- how many slots a rank has: two for each dimension (8.6)
abbrev pub slots : Shape → ℕ
slots shape = slots_in shape.grid

abbrev pub neighbour_in : Option Topology → ℕ → ℕ → Option ℕ
neighbour_in (Some g) j t = neighbour g j t
neighbour_in None j t = None

abbrev pub is_it : Option ℕ → ℕ → Bool
is_it (Some r) i = r == i
is_it None i = false

-- rank i is the neighbour of rank j in slot t
abbrev pub is_neighbour : Shape → (i j t : ℕ) → Bool
is_neighbour shape i j t = is_it (neighbour_in shape.grid j t) i

-- ## the table of kinds

-- element x lies in block b, where blocks of these sizes lie one after the other
abbrev pub in_block : List ℕ → ℕ → ℕ → Bool
in_block sizes b x = nat_le (sum (take b sizes)) x && nat_lt x (sum (take (b + 1) sizes))

-- element x of rank i, which stated these counts for itself, goes to place t of rank j
unfoldable pub goes_by : Signature → Shape → (counts : List ℕ) → (i x j t : ℕ) → Bool
-- 6.4
goes_by (Bcast r ty n) shape counts i x j t = i == r && not (j == r) && t == 0
-- 6.5
goes_by (Gather r ty n) shape counts i x j t = j == r && t == i
goes_by (Gatherv r ty) shape counts i x j t = j == r && t == i
-- 6.6
goes_by (Scatter r ty n) shape counts i x j t =
    i == r && t == 0 && in_block (replicate shape.size n) j x
goes_by (Scatterv r ty) shape counts i x j t = i == r && t == 0 && in_block counts j x
-- 6.7
goes_by (Allgather ty n) shape counts i x j t = t == i
goes_by (Allgatherv ty) shape counts i x j t = t == i
-- 6.8
goes_by (Alltoall ty n) shape counts i x j t = t == i && in_block (replicate shape.size n) j x
goes_by (Alltoallv ty) shape counts i x j t = t == i && in_block counts j x
-- 6.9
goes_by (Reduce r op ty n) shape counts i x j t = j == r && t == 0
goes_by (Allreduce op ty n) shape counts i x j t = t == 0
-- 6.10
goes_by (ReduceScatter op ty sizes) shape counts i x j t = t == 0 && in_block sizes j x
goes_by (ReduceScatterBlock op ty n) shape counts i x j t =
    t == 0 && in_block (replicate shape.size n) j x
-- 6.11
goes_by (Scan op ty n) shape counts i x j t = nat_le i j && t == 0
goes_by (Exscan op ty n) shape counts i x j t = nat_lt i j && t == 0
-- 8.6: what a rank gives for a slot arrives in the opposite slot of the neighbour there (own rule)
goes_by (NeighborAllgather ty n) shape counts i x j t = is_neighbour shape i j t
goes_by (NeighborAllgatherv ty) shape counts i x j t = is_neighbour shape i j t
goes_by (NeighborAlltoall ty n) shape counts i x j t =
    is_neighbour shape i j t && in_block (replicate (slots shape) n) (opposite t) x
goes_by (NeighborAlltoallv ty) shape counts i x j t =
    is_neighbour shape i j t && in_block counts (opposite t) x
-- a barrier and the constructors move nothing
goes_by _ shape counts i x j t = false

-- element x of rank i goes to place t of rank j
abbrev pub goes : Roll → (i x j t : ℕ) → Bool
goes roll i x j t = goes_by roll.sig roll.shape (own_counts_in (stated_by roll i)) i x j t

-- how many blocks rank j gets: nobody gets its own broadcast, and exscan gives rank 0 none (own
-- rules)
unfoldable pub places_by : Signature → Shape → ℕ → ℕ
places_by (Bcast r ty n) shape j = if j == r then 0 else 1
places_by (Gather r ty n) shape j = if j == r then shape.size else 0
places_by (Gatherv r ty) shape j = if j == r then shape.size else 0
places_by (Scatter r ty n) shape j = 1
places_by (Scatterv r ty) shape j = 1
places_by (Allgather ty n) shape j = shape.size
places_by (Allgatherv ty) shape j = shape.size
places_by (Alltoall ty n) shape j = shape.size
places_by (Alltoallv ty) shape j = shape.size
places_by (Reduce r op ty n) shape j = if j == r then 1 else 0
places_by (Allreduce op ty n) shape j = 1
places_by (ReduceScatter op ty sizes) shape j = 1
places_by (ReduceScatterBlock op ty n) shape j = 1
places_by (Scan op ty n) shape j = 1
places_by (Exscan op ty n) shape j = if j == 0 then 0 else 1
places_by (NeighborAllgather ty n) shape j = slots shape
places_by (NeighborAllgatherv ty) shape j = slots shape
places_by (NeighborAlltoall ty n) shape j = slots shape
places_by (NeighborAlltoallv ty) shape j = slots shape
places_by _ shape j = 0

abbrev pub places : Roll → ℕ → ℕ
places roll j = places_by roll.sig roll.shape j

-- some element of rank i goes to place t of rank j
abbrev pub sends : Roll → (i j t : ℕ) → Bool
sends roll i j t = list_any (λ x. goes roll i x j t) (below (given roll i))

-- some element of rank i goes to some place of rank j
unfoldable pub routed : Roll → (i j : ℕ) → Bool
routed roll i j = list_any (λ t. sends roll i j t) (below (places roll j))

-- place t of rank j stays empty, since it has no neighbour in that slot
unfoldable pub is_missing : Roll → (j t : ℕ) → Bool
is_missing roll j t = is_neighbourly roll.sig && is_none (neighbour_in roll.shape.grid j t)
