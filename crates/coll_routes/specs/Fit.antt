-- What the calls on a roll ask of it.
use Rattle.std.specs.Prelude.{◌≡◌, ◌==◌, ℕ, ◌<◌, length, Bool, true, not, ◌&&◌, ◌||◌, Option, Some}
use Rattle.std.specs.Prelude.{None, IsSome, is_some, is_none}
use Rattle.std.specs.List.{list_any}
use Rattle.mpi_cart.specs.Grids.{Topology, volume}
use Rattle.coll_routes.specs.declared.statement.Stated.{Stated}
use Rattle.coll_routes.specs.declared.roll.Shape.{Shape}
use Rattle.coll_routes.specs.declared.roll.Roll.{Roll}
use Rattle.coll_routes.specs.Signatures.{same_signature}
use Rattle.coll_routes.specs.Rolls.{stated_by, ranks}
use Rattle.coll_routes.specs.Faults.{stated_fault}

-- the grid, if there is one, has as many cells as there are ranks
abbrev pub IsSizedGrid : ℕ → Option Topology → Type 0
IsSizedGrid n (Some g) = volume g.dims ≡ n
IsSizedGrid n None = Unit {0}

abbrev pub IsSized : Shape → Type 0
IsSized shape = IsSizedGrid shape.size shape.grid

-- the statement of a rank is one that its roll may have
pub record IsStatement (roll : Roll) (i : ℕ) (s : Stated) : Type 0 where
  pub sig : s.sig ≡ roll.sig
  pub fault : stated_fault roll.shape i s ≡ None
  pub labelled : s.barred ≡ true → IsSome s.label

-- the roll has as many members as its shape and its grid say, and the statements that it has are of
-- its own signature, without a fault, and not barred without a label
pub record IsSound (roll : Roll) : Type 0 where
  pub members : length roll.members ≡ roll.shape.size
  pub grid : IsSized roll.shape
  pub rows : length roll.stated ≡ roll.shape.size
  pub statements : (i : ℕ) (s : Stated) → stated_by roll i ≡ Some s → IsStatement roll i s

-- and each rank has posted
pub record IsFit (roll : Roll) : Type 0 where
  pub sound : IsSound roll
  pub full : (i : ℕ) → i < roll.shape.size → IsSome (stated_by roll i)

-- ## the same as a test

abbrev pub is_sized_grid : ℕ → Option Topology → Bool
is_sized_grid n (Some g) = volume g.dims == n
is_sized_grid n None = true

abbrev pub is_statement : Roll → (i : ℕ) → Stated → Bool
is_statement roll i s = same_signature s.sig roll.sig && is_none (stated_fault roll.shape i s)
    && (not s.barred || is_some s.label)

abbrev pub is_unfit_at : Roll → (i : ℕ) → Option Stated → Bool
is_unfit_at roll i (Some s) = not (is_statement roll i s)
is_unfit_at roll i None = true

-- rank i has not posted, or what it stated isn't one that the roll may have
abbrev pub is_unfit : Roll → ℕ → Bool
is_unfit roll i = is_unfit_at roll i (stated_by roll i)

unfoldable pub is_fit : Roll → Bool
is_fit roll =
    length roll.members == roll.shape.size
    && is_sized_grid roll.shape.size roll.shape.grid
    && length roll.stated == roll.shape.size
    && not (list_any (is_unfit roll) (ranks roll))
