-- Room for a delivery, made before it is filled.
use Rattle.std.specs.Prelude.{ℕ, List, [], Option, Some, None, map, length}
use Rattle.mpi_elems.specs.Elements.{Element}
use Rattle.mpi_elems.specs.Contents.{Contents}
use Rattle.coll_routes.specs.Faults.{stated_type}
use Rattle.coll_values.specs.declared.full.Full.{Full}
use Rattle.coll_values.specs.Spaces.{Space}
use Rattle.coll_values.specs.Values.{blocks}

-- how many elements a block has; none where it stays empty for want of a neighbour
abbrev pub size_of : Option (List Element) → ℕ
size_of (Some elements) = length elements
size_of None = 0

-- the sizes of the blocks of rank j
abbrev pub sizes : Full Contents → (j : ℕ) → List ℕ
sizes F j = map size_of (blocks F j)

-- room for exactly the blocks of rank j, of which none is filled
abbrev pub space_for : Full Contents → (j : ℕ) → Space
space_for F j = record { elem_type = stated_type F.roll.sig; sizes = sizes F j; filled = [] }
