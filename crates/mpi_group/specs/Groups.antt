-- Groups. (MPI 4.1, section 7.3.) A group is the list of its members by rank; no process is in it
-- twice.
use Rattle.std.specs.Prelude.{◌≡◌, ◌==◌, ℕ, ◌<◌, Bool, true, not, ◌&&◌, if◌then◌else◌, List, []}
use Rattle.std.specs.Prelude.{◌∷◌, ◌++◌, Option, Some, None, All, filter, filter_map}
use Rattle.std.specs.Prelude.{option_and_then, position, slice_get, nat_lt}
use Rattle.std.specs.List.{list_any, list_all}
use Rattle.std.specs.Str.{bytes_eq as lists_eq}
use Rattle.wall_labels.specs.declared.ids.TheConstants.{PROCESS_LIMIT}
use Rattle.mpi_group.specs.declared.fault.GroupFault.{GroupFault}
use Rattle.mpi_group.specs.declared.fault.GroupFault.TheVariants.{BadRank, RepeatedRank}
use Rattle.mpi_group.specs.declared.compare.GroupCompare.{GroupCompare}
use Rattle.mpi_group.specs.declared.compare.GroupCompare.TheVariants.{Identical, Similar, Unequal}

abbrev pub is_member : List ℕ → ℕ → Bool
is_member members p = list_any (λ m. m == p) members

-- no number stands there twice
abbrev pub is_distinct : List ℕ → Bool
is_distinct [] = true
is_distinct (x ∷ xs) = not (is_member xs x) && is_distinct xs

-- what the members of every group are
pub record IsGroup (members : List ℕ) : Type 0 where
  pub distinct : is_distinct members ≡ true
  pub below : All (λ p. p < PROCESS_LIMIT) members

-- the rank of a process, if it is a member (MPI_Group_rank)
abbrev pub rank_in : List ℕ → ℕ → Option ℕ
rank_in members p = position (λ m. m == p) members

-- the rank that the second group gives to the member of the first at this rank
-- (MPI_Group_translate_ranks)
abbrev pub translated : List ℕ → List ℕ → ℕ → Option ℕ
translated members others rank = option_and_then (rank_in others) (slice_get members rank)

-- all of the first group, and then those of the second that the first lacks (MPI_Group_union)
unfoldable pub union_of : List ℕ → List ℕ → List ℕ
union_of members others = members ++ filter (λ p. not (is_member members p)) others

-- those of the first group that are in the second too (MPI_Group_intersection)
unfoldable pub intersection_of : List ℕ → List ℕ → List ℕ
intersection_of members others = filter (λ p. is_member others p) members

-- those of the first group that the second lacks (MPI_Group_difference)
unfoldable pub difference_of : List ℕ → List ℕ → List ℕ
difference_of members others = filter (λ p. not (is_member others p)) members

-- the members at these ranks, in the order of the ranks named (MPI_Group_incl)
unfoldable pub members_at : List ℕ → List ℕ → List ℕ
members_at members ranks = filter_map (slice_get members) ranks

-- the other members, in the order of the group (MPI_Group_excl)
unfoldable pub members_apart_from : List ℕ → List ℕ → List ℕ
members_apart_from members ranks = difference_of members (members_at members ranks)

-- each rank is one of a group of this size
abbrev pub are_ranks : ℕ → List ℕ → Bool
are_ranks size ranks = list_all (λ rank. nat_lt rank size) ranks

-- the first thing wrong with the ranks named: incl and excl take each rank at most once
abbrev pub ranks_fault : ℕ → List ℕ → Option GroupFault
ranks_fault size ranks = if are_ranks size ranks
    then (if is_distinct ranks then None else Some RepeatedRank) else Some BadRank

-- the same members in the same order, the same members, or neither (MPI_Group_compare)
unfoldable pub group_compare : List ℕ → List ℕ → GroupCompare
group_compare members others = if lists_eq members others then Identical
    else (if list_all (is_member others) members && list_all (is_member members) others then Similar
    else Unequal)
