-- What a rank is delivered. (MPI 4.1, chapter 6, and section 8.6 between neighbours.)
use Rattle.std.specs.Prelude.{ℕ, List, Option, Some, None, map, filter, filter_map, flat_map, fold}
use Rattle.std.specs.Prelude.{max, length, slice_get, if◌then◌else◌}
use Rattle.wall_labels.specs.declared.op.Op.{Op}
use Rattle.mpi_elems.specs.Elements.{Element, numbers_of, folded}
use Rattle.mpi_elems.specs.Contents.{Contents}
use Rattle.mpi_cart.specs.Grids.{below}
use Rattle.coll_routes.specs.declared.roll.Roll.{Roll}
use Rattle.coll_routes.specs.Signatures.{reduction}
use Rattle.coll_routes.specs.Rolls.{given, goes, places, ranks, is_missing}
use Rattle.coll_routes.specs.Faults.{stated_type}
use Rattle.coll_values.specs.declared.full.Full.{Full}
use Rattle.coll_values.specs.declared.delivery.Block.{Block}
use Rattle.coll_values.specs.declared.delivery.Block.TheVariants.{Missing, Numbers}
use Rattle.coll_values.specs.Instances.{element}

-- the elements of rank i that go to place t of rank j, in the order in which i gave them
unfoldable pub sent : Full Contents → (i j t : ℕ) → List Element
sent F i j t = filter_map (element F i) (filter (λ x. goes F.roll i x j t) (below (given F.roll i)))

-- what each rank sends to each place of one receiver
abbrev pub Sendings : Type 0
Sendings = (i t : ℕ) → List Element

-- the block at place t in a kind that doesn't reduce: what goes there (a place has one source, a
-- law of coll_routes)
abbrev pub copied : Roll → Sendings → (t : ℕ) → List Element
copied roll sent t = flat_map (λ i. sent i t) (ranks roll)

-- how many elements the longest of the pieces has that the ranks send
abbrev pub breadth : Roll → Sendings → ℕ
breadth roll sent = fold max 0 (map (λ i. length (sent i 0)) (ranks roll))

-- element y of the one block in a kind that reduces: the fold, by rising rank, of the y-th element
-- that each rank sends (6.9.1)
unfoldable pub folded_at : Op → Roll → Sendings → (y : ℕ) → Option Element
folded_at op roll sent y =
    folded op (stated_type roll.sig) (filter_map (λ i. slice_get (sent i 0) y) (ranks roll))

abbrev pub reduced : Op → Roll → Sendings → List Element
reduced op roll sent = filter_map (folded_at op roll sent) (below (breadth roll sent))

-- the elements of the block at place t of rank j; none where that slot has no neighbour (8.6)
abbrev pub block_by : Option Op → Roll → Sendings → (j t : ℕ) → Option (List Element)
block_by (Some op) roll sent j t = Some (reduced op roll sent)
block_by None roll sent j t = if is_missing roll j t then None else Some (copied roll sent t)

-- the elements of that block, of what the members of the instance sent
abbrev pub block_at : Full Contents → (j t : ℕ) → Option (List Element)
block_at F j t = block_by (reduction F.roll.sig) F.roll (λ i t. sent F i j t) j t

-- the blocks of rank j, as elements
unfoldable pub blocks : Full Contents → (j : ℕ) → List (Option (List Element))
blocks F j =
    map (block_by (reduction F.roll.sig) F.roll (λ i t. sent F i j t) j) (below (places F.roll j))

abbrev pub block_of : Option (List Element) → Block
block_of (Some elements) = Numbers (numbers_of elements)
block_of None = Missing

-- the blocks of rank j, as numbers: what it is delivered
unfoldable pub value : Full Contents → (j : ℕ) → List Block
value F j = map block_of (blocks F j)
