-- The parts of a grid.
use Rattle.std.specs.Prelude.{ℕ, List, Bool, map, Vec}
use Rattle.std.specs.Global.{Global}
use Rattle.std.specs.List.{items_where_true}
use Rattle.mpi_cart.specs.Grids.{Topology, coords}

-- the numbers of each of these lists
abbrev pub ranks_in : List (Vec ℕ Global) → List (List ℕ)
ranks_in lists = map (λ list. list.items) lists

-- the coordinates of a rank in the dimensions of which the list says true
abbrev pub apart_of : Topology → (gone : List Bool) → (r : ℕ) → List ℕ
apart_of g gone r = items_where_true gone (coords g r)
