-- What contracts see of a room.
use Rattle.std.specs.Prelude.{ℕ, List}
use Rattle.mpi_elems.specs.declared.elem_type.ElemType.{ElemType}
use Rattle.coll_values.specs.declared.delivery.Block.{Block}

-- the type of the elements, how many elements each of the blocks can take that aren't filled yet,
-- and the blocks that are
pub record Space : Type 0 where
  pub elem_type : ElemType
  pub sizes : List ℕ
  pub filled : List Block
