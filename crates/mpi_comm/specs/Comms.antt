-- Communicators. (MPI 4.1, section 7.4.) A table of them is the list of their groups; a
-- communicator's number is its place. The world is the first, and new ones take the next numbers.
-- (Own rule.)
use Rattle.std.specs.Prelude.{◌≡◌, ◌==◌, ℕ, ◌+◌, Bool, ◌&&◌, ◌||◌, if◌then◌else◌, List, [], ◌∷◌}
use Rattle.std.specs.Prelude.{◌++◌, length, map, nat_lt, nat_le, slice_get, Option, Some, None}
use Rattle.std.specs.Prelude.{unwrap_or, Result, Ok, Err, IfOk, IfErr, OnOk, OnErr}
use Rattle.std.specs.List.{list_all}
use Rattle.mpi_group.specs.Groups.{rank_in, are_ranks, is_distinct, members_at, group_compare}
use Rattle.mpi_group.specs.declared.compare.GroupCompare.{GroupCompare}
use Rattle.mpi_group.specs.declared.compare.GroupCompare.TheVariants.{Identical as SameGroup}
use Rattle.mpi_group.specs.declared.compare.GroupCompare.TheVariants.{Similar as SimilarGroup}
use Rattle.mpi_group.specs.declared.compare.GroupCompare.TheVariants.{Unequal as UnequalGroup}
use Rattle.mpi_comm.specs.Splits.{has_bad_colour, split_groups}
use Rattle.mpi_comm.specs.declared.values.Ask.{Ask}
use Rattle.mpi_comm.specs.declared.values.Made.{Made}
use Rattle.mpi_comm.specs.declared.values.CommInfo.{CommInfo}
use Rattle.mpi_comm.specs.declared.values.CommCompare.{CommCompare}
use Rattle.mpi_comm.specs.declared.values.CommCompare.TheVariants.{Identical, Congruent, Similar}
use Rattle.mpi_comm.specs.declared.values.CommCompare.TheVariants.{Unequal}
use Rattle.mpi_comm.specs.declared.fault.CommFault.{CommFault}
use Rattle.mpi_comm.specs.declared.fault.CommFault.TheVariants.{NoSuchComm, NotMember, NotSubgroup}
use Rattle.mpi_comm.specs.declared.fault.CommFault.TheVariants.{BadColour, NoRoom, NoMemory}

-- the group of a communicator
abbrev pub group_at : List (List ℕ) → ℕ → List ℕ
group_at table c = unwrap_or (slice_get table c) []

-- what a process may know of a communicator: its size, and its own rank (MPI_Comm_size,
-- MPI_Comm_rank)
abbrev pub info_at : List ℕ → Option ℕ → Result CommInfo CommFault
info_at members (Some rank) = Ok (record { size = length members; rank = rank })
info_at members None = Err NotMember

abbrev pub info_of : List (List ℕ) → ℕ → ℕ → Result CommInfo CommFault
info_of table process c = if nat_lt c (length table)
    then info_at (group_at table c) (rank_in (group_at table c) process) else Err NoSuchComm

-- how two communicators compare (MPI_Comm_compare)
abbrev pub compare_by : GroupCompare → CommCompare
compare_by SameGroup = Congruent
compare_by SimilarGroup = Similar
compare_by UnequalGroup = Unequal

abbrev pub comm_compare : List (List ℕ) → ℕ → ℕ → Result CommCompare CommFault
comm_compare table a b = if nat_lt a (length table) && nat_lt b (length table)
    then Ok (if a == b then Identical
    else compare_by (group_compare (group_at table a) (group_at table b))) else Err NoSuchComm

-- the groups that a duplicate makes (MPI_Comm_dup)
abbrev pub dup_groups : List ℕ → List (List ℕ)
dup_groups members = members ∷ []

-- those that each member makes by stating the same ranks; none makes none (MPI_Comm_create)
abbrev pub create_groups : List ℕ → List ℕ → List (List ℕ)
create_groups [] members = []
create_groups (rank ∷ ranks) members = members_at members (rank ∷ ranks) ∷ []

-- one for each list of ranks, as a grid's parts are
abbrev pub subset_groups : List (List ℕ) → List ℕ → List (List ℕ)
subset_groups lists members = map (λ ranks. members_at members ranks) lists

-- each rank is one of a group of this size, and none is named twice
abbrev pub is_subgroup : ℕ → List ℕ → Bool
is_subgroup size ranks = are_ranks size ranks && is_distinct ranks

-- the most communicators, the world included (own rule)
abbrev pub communicators_limit : ℕ
communicators_limit = 1024

-- so many more communicators fit, where there are some before; making none always fits
abbrev pub fits : ℕ → ℕ → Bool
fits before number = nat_le (before + number) communicators_limit || number == 0

-- Why a constructor on the communicator is refused: there is no such communicator, else its own
-- fault, else want of room for what it makes.
abbrev pub constructor_fault : List (List ℕ) → ℕ → Option CommFault → List (List ℕ) →
    Option CommFault
constructor_fault table c (Some fault) made =
    Some (if nat_lt c (length table) then fault else NoSuchComm)
constructor_fault table c None made =
    if nat_lt c (length table)
    then (if fits (length table) (length made) then None else Some NoRoom)
    else Some NoSuchComm

abbrev pub dup_fault : List (List ℕ) → ℕ → Option CommFault
dup_fault table c = constructor_fault table c None (dup_groups (group_at table c))

abbrev pub split_fault : List (List ℕ) → ℕ → List Ask → Option CommFault
split_fault table c asks = constructor_fault table c
    (if has_bad_colour asks then Some BadColour else None) (split_groups asks (group_at table c))

abbrev pub create_fault : List (List ℕ) → ℕ → List ℕ → Option CommFault
create_fault table c ranks = constructor_fault table c
    (if is_subgroup (length (group_at table c)) ranks then None else Some NotSubgroup)
    (create_groups ranks (group_at table c))

abbrev pub subsets_fault : List (List ℕ) → ℕ → List (List ℕ) → Option CommFault
subsets_fault table c lists = constructor_fault table c
    (if list_all (is_subgroup (length (group_at table c))) lists then None else Some NotSubgroup)
    (subset_groups lists (group_at table c))

-- A constructor with this fault, if any, that makes these groups: the table has grown by them, or
-- it is as it was and the answer is the fault. Where there is none, only out of memory is answered.
pub record Constructs (fault : Option CommFault) (made : List (List ℕ)) (old new : List (List ℕ))
    (result : Result Made CommFault) : Type 0 where
  pub good : OnOk result (fault ≡ None)
  pub grown : OnOk result (new ≡ old ++ made)
  pub told : IfOk result (λ m. m ≡ record { first = length old; number = length made })
  pub refused : IfErr result (λ f. f ≡ unwrap_or fault NoMemory)
  pub kept : OnErr result (new ≡ old)
