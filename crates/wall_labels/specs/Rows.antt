-- The set of the places at which a row of bits is set.
use Rattle.std.specs.Prelude.{◌≡◌, ℕ, ◌*◌, ◌/◌, ◌%◌, ◌<◌, ◌≤◌, ◌==◌, ◌⊎◌, ◌&&◌, ◌||◌, nat_eq, not}
use Rattle.std.specs.Prelude.{IsTrue, Bool, true, false, List, length, Option, Some, None}
use Rattle.std.specs.Prelude.{slice_index_or}
use Rattle.std.specs.Int.{bit_at}
use Rattle.std.specs.List.{filter, range_with_len}
use Rattle.std.specs.Ordering.{nat_cmp}
use Rattle.std.specs.FinSet.{FinSet, from_list, contains}
use Rattle.wall_labels.specs.Limits.{dataset_limit}

-- the bit of number n is set in its word of 64 bits
abbrev pub is_bit : ℕ → ℕ → Bool
is_bit word n = bit_at word (n % 64) == 1

-- place n of a row of words is set
unfoldable pub is_set : List ℕ → ℕ → Bool
is_set words n = is_bit (slice_index_or words (n / 64) 0) n

unfoldable pub set_of_row : List ℕ → FinSet nat_cmp
set_of_row words = from_list (filter (is_set words) (range_with_len 0 (64 * length words)))

-- no word from this one on has a bit that is set
pub record IsClearFrom (words : List ℕ) (used : ℕ) : Type 0 where
  pub within : used ≤ length words
  pub clear : (n : ℕ) → 64 * used ≤ n → is_set words n ≡ false

-- n is not the given number, if there is one
abbrev pub differs : Option ℕ → ℕ → Bool
differs (Some given) n = not (nat_eq given n)
differs None n = true

-- place n is set in the row, and in one of two others
abbrev pub is_in_one : (words left right : List ℕ) → ℕ → Bool
is_in_one words left right n = (is_set left n || is_set right n) && is_set words n

-- place n is set in the row, and not in the other
abbrev pub is_missing : (words other : List ℕ) → ℕ → Bool
is_missing words other n = is_set words n && not (is_set other n)

-- each member is the number of a dataset
abbrev pub HoldsDatasets : FinSet nat_cmp → Type 0
HoldsDatasets s = (d : ℕ) → IsTrue (contains s d) → d < dataset_limit

-- d is in the set, and in one of two others
abbrev pub IsShared : FinSet nat_cmp → FinSet nat_cmp → FinSet nat_cmp → ℕ → Type 0
IsShared s left right d =
    IsTrue (contains s d) × (IsTrue (contains left d) ⊎ IsTrue (contains right d))

-- and no number below d is
abbrev pub IsLowestShared : FinSet nat_cmp → FinSet nat_cmp → FinSet nat_cmp → ℕ → Type 0
IsLowestShared s left right d =
    IsShared s left right d × ((e : ℕ) → e < d → ¬ (IsShared s left right e))

abbrev pub SharesNone : FinSet nat_cmp → FinSet nat_cmp → FinSet nat_cmp → Type 0
SharesNone s left right = (d : ℕ) → ¬ (IsShared s left right d)

-- some number is in both
abbrev pub Meet : FinSet nat_cmp → FinSet nat_cmp → Type 0
Meet s other = (d : ℕ) × IsTrue (contains s d) × IsTrue (contains other d)

-- each member of the first is one of the second
abbrev pub IsWithin : FinSet nat_cmp → FinSet nat_cmp → Type 0
IsWithin s other = (d : ℕ) → IsTrue (contains s d) → IsTrue (contains other d)
