-- The types of elements and their names. (Own rule: the integer types by width, and a pair of
-- 32-bit numbers as in MPI 4.1, section 6.9.4.)
use Rattle.std.specs.Prelude.{ℕ, List, [], ◌∷◌, Bool, true, false, Option, find, codes}
use Rattle.std.specs.Prelude.{if◌then◌else◌}
use Rattle.std.specs.Str.{bytes_eq}
use Rattle.mpi_elems.specs.declared.elem_type.ElemType.{ElemType}
use Rattle.mpi_elems.specs.declared.elem_type.ElemType.TheVariants.{Int8, Int16, Int32, Int64}
use Rattle.mpi_elems.specs.declared.elem_type.ElemType.TheVariants.{Uint8, Uint16, Uint32, Uint64}
use Rattle.mpi_elems.specs.declared.elem_type.ElemType.TheVariants.{TwoInt}

abbrev pub type_name : ElemType → List ℕ
type_name Int8 = codes "int8"
type_name Int16 = codes "int16"
type_name Int32 = codes "int32"
type_name Int64 = codes "int64"
type_name Uint8 = codes "uint8"
type_name Uint16 = codes "uint16"
type_name Uint32 = codes "uint32"
type_name Uint64 = codes "uint64"
type_name TwoInt = codes "2int"

abbrev pub all_types : List ElemType
all_types = Int8 ∷ Int16 ∷ Int32 ∷ Int64 ∷ Uint8 ∷ Uint16 ∷ Uint32 ∷ Uint64 ∷ TwoInt ∷ []

-- the type of a name
unfoldable pub type_of : List ℕ → Option ElemType
type_of name = find (λ ty. bytes_eq (type_name ty) name) all_types

-- the place of a type in the list above, from 0: no two types have one place
abbrev pub type_number : ElemType → ℕ
type_number Int8 = 0
type_number Int16 = 1
type_number Int32 = 2
type_number Int64 = 3
type_number Uint8 = 4
type_number Uint16 = 5
type_number Uint32 = 6
type_number Uint64 = 7
type_number TwoInt = 8

-- an element is a value and its index
abbrev pub is_pair : ElemType → Bool
is_pair TwoInt = true
is_pair _ = false

abbrev pub numbers_per_element : ElemType → ℕ
numbers_per_element ty = if is_pair ty then 2 else 1
