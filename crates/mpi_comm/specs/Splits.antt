-- The groups of a split: one for each colour, in ascending order of colours; in each the members
-- that ask for the colour, by key, and by old rank where keys are equal. (MPI 4.1, section 7.4.2,
-- MPI_Comm_split; the order of the groups is an own rule.)
use Rattle.std.specs.Prelude.{ℕ, ℤ, pos, Bool, false, List, map, filter, filter_map, int_lt}
use Rattle.std.specs.List.{list_any, enumerate_from, dedup}
use Rattle.std.specs.Option.{option_map_or}
use Rattle.std.specs.Ordering.{int_cmp, int_eq, nat_cmp, is_lt, ordering_then}
use Rattle.mpi_group.specs.Groups.{members_at}
use Rattle.mpi_comm.specs.Sorting.{sorted_by}
use Rattle.mpi_comm.specs.declared.values.Ask.{Ask}

-- the member that asks so asks for this colour
abbrev pub asks_for : ℤ → Ask → Bool
asks_for colour ask = option_map_or (int_eq colour) ask.colour false

-- a colour is negative
abbrev pub has_bad_colour : List Ask → Bool
has_bad_colour asks =
    list_any (λ ask. option_map_or (λ colour. int_lt colour (pos 0)) ask.colour false) asks

-- the colours asked for, each once, in ascending order
unfoldable pub colours_of : List Ask → List ℤ
colours_of asks =
    dedup int_eq (sorted_by (λ c d. is_lt (int_cmp c d)) (filter_map (λ ask. ask.colour) asks))

-- a key and a rank go before others by key, and then by rank
abbrev pub goes_before : ℤ × ℕ → ℤ × ℕ → Bool
goes_before p q = is_lt (ordering_then (int_cmp p.0 q.0) (nat_cmp p.1 q.1))

-- the keys and ranks of those who ask for the colour
abbrev pub asked : ℤ → List Ask → List (ℤ × ℕ)
asked colour asks =
    map (λ e. (e.1.key, e.0)) (filter (λ e. asks_for colour e.1) (enumerate_from 0 asks))

-- the old ranks of those who ask for the colour, in their new order
unfoldable pub ranks_for : ℤ → List Ask → List ℕ
ranks_for colour asks = map (λ p. p.1) (sorted_by goes_before (asked colour asks))

unfoldable pub split_groups : List Ask → List ℕ → List (List ℕ)
split_groups asks members =
    map (λ colour. members_at members (ranks_for colour asks)) (colours_of asks)
