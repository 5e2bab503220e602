-- The table by which a group finds a member's rank.
use Rattle.std.specs.Prelude.{◌≡◌, ℕ, ◌+◌, ◌<◌, max, List, [], ◌∷◌, length, Option, None}
use Rattle.std.specs.Prelude.{slice_index_or}
use Rattle.wall_labels.specs.declared.ids.TheConstants.{PROCESS_LIMIT}
use Rattle.mpi_group.specs.Groups.{rank_in}

-- the table has the rank of each process; one past its end has none
abbrev pub IsIndex : List ℕ → List (Option ℕ) → Type 0
IsIndex members ranks =
    (p : ℕ) → p < PROCESS_LIMIT → slice_index_or ranks p None ≡ rank_in members p

-- how many numbers there are up to the highest of these
unfoldable pub reach : List ℕ → ℕ
reach [] = 0
reach (p ∷ ps) = max (p + 1) (reach ps)

-- such a table, no longer than the highest member's number needs
pub record IsTable (members : List ℕ) (ranks : List (Option ℕ)) : Type 0 where
  pub index : IsIndex members ranks
  pub long : length ranks ≡ reach members
