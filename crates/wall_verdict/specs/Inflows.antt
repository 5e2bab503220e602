-- What comes to the receivers of an instance, one receiver after the other: which ranks can reach
-- a receiver, and for which kinds what has come to one receiver comes to the next too.
use Rattle.std.specs.Prelude.{◌≡◌, ℕ, ◌+◌, ◌<◌, ◌≤◌, ◌==◌, nat_lt, Bool, true, false, List}
use Rattle.std.specs.Prelude.{slice_index_or, Option, IfSome, count_by, is_some, if◌then◌else◌}
use Rattle.std.specs.Option.{option_and_then}
use Rattle.std.specs.List.{list_any}
use Rattle.std.specs.FinSet.{contains}
use Rattle.wall_policy.specs.Rivals.{are_rivals}
use Rattle.mpi_cart.specs.Grids.{below}
use Rattle.coll_routes.specs.declared.signature.Signature.{Signature}
use Rattle.coll_routes.specs.declared.signature.Signature.TheVariants.{Bcast, Gather, Gatherv}
use Rattle.coll_routes.specs.declared.signature.Signature.TheVariants.{Scatter, Scatterv, Allgather}
use Rattle.coll_routes.specs.declared.signature.Signature.TheVariants.{Allgatherv, Alltoall}
use Rattle.coll_routes.specs.declared.signature.Signature.TheVariants.{Alltoallv, Reduce, Allreduce}
use Rattle.coll_routes.specs.declared.signature.Signature.TheVariants.{ReduceScatter}
use Rattle.coll_routes.specs.declared.signature.Signature.TheVariants.{ReduceScatterBlock, Scan}
use Rattle.coll_routes.specs.declared.signature.Signature.TheVariants.{Exscan, NeighborAllgather}
use Rattle.coll_routes.specs.declared.signature.Signature.TheVariants.{NeighborAllgatherv}
use Rattle.coll_routes.specs.declared.signature.Signature.TheVariants.{NeighborAlltoall}
use Rattle.coll_routes.specs.declared.signature.Signature.TheVariants.{NeighborAlltoallv}
use Rattle.coll_routes.specs.declared.roll.Roll.{Roll}
use Rattle.wall_verdict.specs.declared.case.Case.{Case}
use Rattle.wall_verdict.specs.declared.inflow.Inflow.{Inflow}
use Rattle.wall_verdict.specs.declared.collected.Collected.{Collected}
use Rattle.coll_routes.specs.Rolls.{neighbour_in, label_of}
use Rattle.coll_routes.specs.Signatures.{is_neighbourly}
use Rattle.wall_verdict.specs.Charges.{contribution, contributors, contributed, different_datasets}
use Rattle.wall_verdict.specs.Charges.{is_that, is_another, dataset_in}

abbrev pub from_root : (root size : ℕ) → ℕ
from_root root size = if nat_lt root size then root else 0

abbrev pub past_root : (root size : ℕ) → ℕ
past_root root size = if nat_lt root size then root + 1 else 0

-- the root itself gets nothing from the root
abbrev pub past_other_root : (root size j : ℕ) → ℕ
past_other_root root size j = if j == root then from_root root size else past_root root size

abbrev pub all_at : (root size j : ℕ) → ℕ
all_at root size j = if j == root then size else 0

-- no rank below this one reaches a receiver
unfoldable pub start_of : Signature → (size : ℕ) → ℕ
start_of (Bcast r ty n) size = from_root r size
start_of (Scatter r ty n) size = from_root r size
start_of (Scatterv r ty) size = from_root r size
start_of _ size = 0

-- neither this rank nor any above it reaches receiver j
unfoldable pub end_of : Signature → (size j : ℕ) → ℕ
end_of (Bcast r ty n) size j = past_other_root r size j
end_of (Scatter r ty n) size j = past_root r size
end_of (Scatterv r ty) size j = past_root r size
end_of (Gather r ty n) size j = all_at r size j
end_of (Gatherv r ty) size j = all_at r size j
end_of (Reduce r op ty n) size j = all_at r size j
end_of (ReduceScatter op ty sizes) size j = if nat_lt 0 (slice_index_or sizes j 0) then size else 0
end_of (Scan op ty n) size j = j + 1
end_of (Exscan op ty n) size j = j
end_of (Allgather ty n) size j = size
end_of (Allgatherv ty) size j = size
end_of (Alltoall ty n) size j = size
end_of (Alltoallv ty) size j = size
end_of (Allreduce op ty n) size j = size
end_of (ReduceScatterBlock op ty n) size j = size
end_of (NeighborAllgather ty n) size j = size
end_of (NeighborAllgatherv ty) size j = size
end_of (NeighborAlltoall ty n) size j = size
end_of (NeighborAlltoallv ty) size j = size
end_of _ size j = 0

-- a rank below the ends of two receivers reaches both or neither
unfoldable pub is_alike : Signature → Bool
is_alike (Allgather ty n) = true
is_alike (Allgatherv ty) = true
is_alike (Alltoall ty n) = true
is_alike (Allreduce op ty n) = true
is_alike (ReduceScatter op ty sizes) = true
is_alike (ReduceScatterBlock op ty n) = true
is_alike (Scan op ty n) = true
is_alike (Exscan op ty n) = true
is_alike (Bcast r ty n) = true
is_alike (Scatter r ty n) = true
is_alike (Gather r ty n) = true
is_alike (Gatherv r ty) = true
is_alike (Reduce r op ty n) = true
is_alike _ = false

-- some rank below n brings d, where rank i brings f i
abbrev pub is_brought : (ℕ → Option ℕ) → (n d : ℕ) → Bool
is_brought f n d = list_any (λ i. is_that (f i) d) (below n)

-- among its rivals are all those of its datasets
abbrev pub HasRivals : (classes : List ℕ) → Inflow → Type 0
HasRivals classes v = (d e : ℕ) → contains v.datasets d ≡ true → are_rivals classes d e ≡ true →
    contains v.rivals e ≡ true

-- The ranks below n have brought this, where rank i brings f i: their number, how many different
-- datasets, which ones, and among others all rivals of these.
pub record IsInflow (classes : List ℕ) (f : ℕ → Option ℕ) (n : ℕ) (v : Inflow) : Type 0 where
  pub number : v.number ≡ count_by (λ i. is_some (f i)) (below n)
  pub different : v.different ≡ count_by (λ i. is_another (λ d. is_brought f i d) (f i)) (below n)
  pub datasets : (d : ℕ) → contains v.datasets d ≡ is_brought f n d
  pub rivals : HasRivals classes v

-- so far for receiver j: of the ranks below n
abbrev pub IsTaken : List ℕ → Roll → (j n : ℕ) → Inflow → Type 0
IsTaken classes roll j n v = IsInflow classes (λ i. contribution roll i j) n v

-- of the ranks below `ranks`
abbrev pub IsInflowOf : List ℕ → Roll → (j : ℕ) → Inflow → Type 0
IsInflowOf classes roll j v = IsInflow classes (λ i. contribution roll i j) v.ranks v

-- what the neighbour of rank j in slot t contributes to j
abbrev pub from_slot : Roll → (t j : ℕ) → Option ℕ
from_slot roll t j = option_and_then (λ i. contribution roll i j) (neighbour_in roll.shape.grid j t)

-- so far for receiver j, where the kind goes between neighbours: of its neighbours in the slots
-- below n
abbrev pub IsTakenFromSlots : List ℕ → Roll → (j n : ℕ) → Inflow → Type 0
IsTakenFromSlots classes roll j n v = IsInflow classes (λ t. from_slot roll t j) n v

-- what the ranks below n label their elements with, wherever these go
abbrev pub IsLabelled : List ℕ → Roll → (n : ℕ) → Inflow → Type 0
IsLabelled classes roll n v = IsInflow classes (λ i. dataset_in (label_of roll i)) n v

-- All that comes to receiver j. Between neighbours both numbers may be others, since one rank can
-- be its neighbour in two slots; no such kind reduces, and then they don't matter.
pub record IsWhole (classes : List ℕ) (roll : Roll) (j : ℕ) (v : Inflow) : Type 0 where
  pub number : is_neighbourly roll.sig ≡ false → v.number ≡ contributors roll j
  pub different : is_neighbourly roll.sig ≡ false → v.different ≡ different_datasets roll j
  pub datasets : (d : ℕ) → contains v.datasets d ≡ contributed roll j d
  pub rivals : HasRivals classes v

-- where ranks reach receivers alike, it serves each receiver whose end its ranks don't pass
abbrev pub Serves : List ℕ → Roll → Inflow → Type 0
Serves classes roll v =
    is_alike roll.sig ≡ true → (k : ℕ) → k < roll.shape.size
    → v.ranks ≤ end_of roll.sig roll.shape.size k → IsInflowOf classes roll k v

-- an inflow that serves, and the labels of all ranks where they are at hand
pub record IsCollected (classes : List ℕ) (roll : Roll) (c : Collected) : Type 0 where
  pub serves : Serves classes roll c.inflow
  pub labels : IfSome c.labels (IsLabelled classes roll roll.shape.size)

abbrev pub IsCollectedFor : Case → Collected → Type 0
IsCollectedFor case c = IsCollected case.histories.now.classes case.roll.now c
