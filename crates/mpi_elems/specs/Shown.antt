-- What a buffer's cells show.
use Rattle.std.specs.Prelude.{◌≡◌, ℕ, List, map, ℤ, pos, true, false, Option, None, option_to_list}
use Rattle.std.specs.Prelude.{◌++◌, vec_capacity}
use Rattle.std.specs.List.{list_all}
use Rattle.mpi_elems.specs.Types.{is_pair}
use Rattle.mpi_elems.specs.Numbers.{is_number_of}
use Rattle.mpi_elems.specs.declared.elem_type.ElemType.{ElemType}
use Rattle.mpi_elems.specs.declared.elem_type.ElemType.TheVariants.{Int8, Int16, Int32, Int64}
use Rattle.mpi_elems.specs.declared.elem_type.ElemType.TheVariants.{Uint8, Uint16, Uint32, Uint64}
use Rattle.mpi_elems.specs.declared.elem_type.ElemType.TheVariants.{TwoInt}
use Rattle.mpi_elems.specs.declared.cells.Cells.{Cells}
use Rattle.mpi_elems.specs.declared.cells.Cells.TheVariants.{I8, I16, I32, I64, U8, U16, U32, U64}
use Rattle.mpi_elems.specs.declared.cells.Cells.TheVariants.{Pairs}
use Rattle.mpi_elems.specs.Elements.{Element, single, pair, numbers_of, is_element_of}
use Rattle.mpi_elems.specs.Contents.{Contents, contents}

abbrev pub kind_of : Cells → ElemType
kind_of (I8 v) = Int8
kind_of (I16 v) = Int16
kind_of (I32 v) = Int32
kind_of (I64 v) = Int64
kind_of (U8 v) = Uint8
kind_of (U16 v) = Uint16
kind_of (U32 v) = Uint32
kind_of (U64 v) = Uint64
kind_of (Pairs v) = TwoInt

abbrev pub elements_in : Cells → List Element
elements_in (I8 v) = map (λ x. single x) v.items
elements_in (I16 v) = map (λ x. single x) v.items
elements_in (I32 v) = map (λ x. single x) v.items
elements_in (I64 v) = map (λ x. single x) v.items
elements_in (U8 v) = map (λ x. single (pos x)) v.items
elements_in (U16 v) = map (λ x. single (pos x)) v.items
elements_in (U32 v) = map (λ x. single (pos x)) v.items
elements_in (U64 v) = map (λ x. single (pos x)) v.items
elements_in (Pairs v) = map (λ p. pair p.0 p.1) v.items

abbrev pub room_of : Cells → ℕ
room_of (I8 v) = vec_capacity v
room_of (I16 v) = vec_capacity v
room_of (I32 v) = vec_capacity v
room_of (I64 v) = vec_capacity v
room_of (U8 v) = vec_capacity v
room_of (U16 v) = vec_capacity v
room_of (U32 v) = vec_capacity v
room_of (U64 v) = vec_capacity v
room_of (Pairs v) = vec_capacity v

abbrev pub shown : Cells → Contents
shown c = contents (kind_of c) (numbers_of (elements_in c)) (room_of c)

-- each number is one of the type's
abbrev pub AreFit : Cells → Type 0
AreFit c = list_all (is_element_of (kind_of c)) (elements_in c) ≡ true

-- the numbers of a buffer in the making, whose last pair may lack its index
abbrev pub drafted : Cells → Option ℤ → List ℤ
drafted c half = numbers_of (elements_in c) ++ option_to_list half

-- what its cells show of it
abbrev pub draft : Cells → Option ℤ → Contents
draft c half = contents (kind_of c) (drafted c half) (room_of c)

-- each number is one of the type's, and only a pair can lack its index
pub record IsDraft (c : Cells) (half : Option ℤ) : Type 0 where
  pub of_type : list_all (is_number_of (kind_of c)) (drafted c half) ≡ true
  pub no_half : is_pair (kind_of c) ≡ false → half ≡ None
