-- Rivals: two different datasets of one conflict of interest class. (Brewer and Nash 1989:
-- "datasets" and "conflict of interest classes"; the word is our own.)
use Rattle.std.specs.Prelude.{◌≢◌, ℕ, ◌+◌, nat_eq, Bool, false, not, ◌&&◌, List, [], ◌∷◌, Option}
use Rattle.std.specs.Prelude.{Some, None, Contains, slice_get, if◌then◌else◌}

-- The list that all of these take has the class of each dataset: a dataset is a place in it.

-- the datasets of a class, where the first of the list is dataset n
abbrev pub datasets_from : ℕ → List ℕ → ℕ → List ℕ
datasets_from n [] class = []
datasets_from n (c ∷ cs) class =
    if nat_eq c class then n ∷ datasets_from (n + 1) cs class else datasets_from (n + 1) cs class

-- the datasets of a class
abbrev pub datasets_in : List ℕ → ℕ → List ℕ
datasets_in classes class = datasets_from 0 classes class

-- two different datasets that stand in one class
abbrev pub AreRivals : List ℕ → ℕ → ℕ → Type 0
AreRivals classes d e = (d ≢ e)
    × ((class : ℕ) × Contains (datasets_in classes class) d
    × Contains (datasets_in classes class) e)

-- there are two such classes, and they are one
abbrev pub is_one_class : Option ℕ → Option ℕ → Bool
is_one_class (Some c) (Some k) = nat_eq c k
is_one_class (Some c) None = false
is_one_class None other = false

-- the same as a test, false for a number that is no dataset
unfoldable pub are_rivals : List ℕ → ℕ → ℕ → Bool
are_rivals classes d e =
    not (nat_eq d e) && is_one_class (slice_get classes d) (slice_get classes e)
