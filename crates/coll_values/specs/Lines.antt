-- Lines: buffers that wait for the elements of a block.
use Rattle.std.specs.Prelude.{◌≡◌, List, [], ◌∷◌}
use Rattle.mpi_elems.specs.declared.elem_type.ElemType.{ElemType}
use Rattle.mpi_elems.specs.Contents.{Contents}

-- each is empty, and for elements of the type
abbrev pub AreLines : ElemType → List Contents → Type 0
AreLines ty [] = Unit {0}
AreLines ty (line ∷ lines) = (line.elem_type ≡ ty) × (line.numbers ≡ []) × AreLines ty lines
