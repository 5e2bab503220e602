-- What contracts see of a buffer.
use Rattle.std.specs.Prelude.{◌≡◌, ℕ, List, ℤ, true}
use Rattle.std.specs.List.{list_all}
use Rattle.mpi_elems.specs.declared.elem_type.ElemType.{ElemType}
use Rattle.mpi_elems.specs.Numbers.{is_number_of}
use Rattle.mpi_elems.specs.Elements.{Element, elements_of, numbers_of}

-- a type, the numbers in order (a pair is two numbers), and how many elements it can hold without
-- taking memory
pub record Contents : Type 0 where
  pub elem_type : ElemType
  pub numbers : List ℤ
  pub room : ℕ

abbrev pub contents : ElemType → List ℤ → ℕ → Contents
contents ty numbers room = record { elem_type = ty; numbers = numbers; room = room }

abbrev pub elements : Contents → List Element
elements b = elements_of b.elem_type b.numbers

-- what is true of each buffer: its numbers are of its type, and they are whole elements
pub record IsFit (b : Contents) : Type 0 where
  pub of_type : list_all (is_number_of b.elem_type) b.numbers ≡ true
  pub whole : numbers_of (elements b) ≡ b.numbers
