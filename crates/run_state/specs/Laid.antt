-- Communicators as they are kept: groups, and beside each a shape.
use Rattle.std.specs.Prelude.{◌≡◌, ℕ, List, [], ◌∷◌, length, map, Option}
use Rattle.mpi_cart.specs.Grids.{Topology}
use Rattle.coll_routes.specs.declared.roll.Shape.{Shape}
use Rattle.coll_routes.specs.Fit.{IsSized}
use Rattle.run_model.specs.Comms.{Comm}

-- each group with the grid of its shape
abbrev pub with_shapes : List (List ℕ) → List Shape → List Comm
with_shapes [] shapes = []
with_shapes (members ∷ groups) [] = []
with_shapes (members ∷ groups) (shape ∷ shapes) =
    record { members = members; grid = shape.grid } ∷ with_shapes groups shapes

-- the shape is one of a group
pub record IsShape (members : List ℕ) (shape : Shape) : Type 0 where
  pub size : shape.size ≡ length members
  pub sized : IsSized shape

abbrev pub AreLaid : List (List ℕ) → List Shape → Type 0
AreLaid [] [] = Unit {0}
AreLaid (members ∷ groups) (shape ∷ shapes) = IsShape members shape × AreLaid groups shapes
AreLaid _ _ = ⊥

-- the shapes of groups that all have this grid, or all none
abbrev pub laid : Option Topology → List (List ℕ) → List Shape
laid grid groups = map (λ members. record { size = length members; grid = grid }) groups
