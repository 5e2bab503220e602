-- Where the blocks of a rank stand among what the ranks gave.
use Rattle.std.specs.Prelude.{◌<◌, ◌≤◌, ℕ, ℤ, List, [], Option, Some, None, take, drop, length}
use Rattle.std.specs.Prelude.{◌+◌, slice_get, slice_range}
use Rattle.mpi_elems.specs.Elements.{Element}
use Rattle.mpi_elems.specs.Contents.{Contents}
use Rattle.coll_routes.specs.declared.lane.Source.{Source}
use Rattle.coll_values.specs.declared.full.Full.{Full}
use Rattle.coll_values.specs.declared.delivery.Block.{Block}
use Rattle.coll_values.specs.declared.delivery.Block.TheVariants.{Missing, Numbers}
use Rattle.coll_values.specs.declared.stretch.Stretch.{Stretch}
use Rattle.coll_values.specs.Instances.{part}

abbrev pub numbers_in : Option Contents → List ℤ
numbers_in (Some part) = part.numbers
numbers_in None = []

-- the numbers that rank i gave
abbrev pub numbers_given : Full Contents → (i : ℕ) → List ℤ
numbers_given F i = numbers_in (slice_get F.parts i)

-- the numbers of a stretch
abbrev pub numbers_along : Full Contents → Stretch → List ℤ
numbers_along F s = drop s.from (take s.to (numbers_given F s.source))

-- the block that a stretch is; where there is none, the slot has no neighbour
abbrev pub block_along : Full Contents → Option Stretch → Block
block_along F (Some s) = Numbers (numbers_along F s)
block_along F None = Missing

-- the stretch is one of what a rank gave
pub record IsAlong (F : Full Contents) (s : Stretch) : Type 0 where
  pub source : s.source < F.roll.shape.size
  pub order : s.from ≤ s.to
  pub within : s.to ≤ length (numbers_given F s.source)

-- the elements that come from a source
abbrev pub elements_from : Full Contents → Source → List Element
elements_from F s =
    slice_range (part F s.from) s.piece.start (s.piece.start + s.piece.len)
