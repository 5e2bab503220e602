-- Elements: single numbers, or pairs of a value and its index.
use Rattle.std.specs.Prelude.{List, [], ◌∷◌, ℤ, map, Bool, ◌&&◌, Option, if◌then◌else◌}
use Rattle.wall_labels.specs.declared.op.Op.{Op}
use Rattle.mpi_elems.specs.declared.elem_type.ElemType.{ElemType}
use Rattle.mpi_elems.specs.Types.{is_pair}
use Rattle.mpi_elems.specs.Numbers.{is_number_of}
use Rattle.mpi_elems.specs.Operations.{on_numbers, keeps_first}
use Rattle.mpi_elems.specs.Lists.{fold_first}

pub data Element : Type 0 where
  single : ℤ → Element
  pair : ℤ → ℤ → Element

-- the numbers of some elements, in order: a pair's value, then its index
unfoldable pub numbers_of : List Element → List ℤ
numbers_of [] = []
numbers_of (single a ∷ rest) = a ∷ numbers_of rest
numbers_of (pair a i ∷ rest) = a ∷ i ∷ numbers_of rest

-- the numbers of the element are numbers of the type
abbrev pub is_element_of : ElemType → Element → Bool
is_element_of ty (single a) = is_number_of ty a
is_element_of ty (pair a i) = is_number_of ty a && is_number_of ty i

-- each two numbers are a pair; an odd one at the end is none
unfoldable pub pairs_of : List ℤ → List Element
pairs_of [] = []
pairs_of (a ∷ []) = []
pairs_of (a ∷ i ∷ rest) = pair a i ∷ pairs_of rest

-- the elements that some numbers are
unfoldable pub elements_of : ElemType → List ℤ → List Element
elements_of ty numbers = if is_pair ty then pairs_of numbers else map single numbers

-- two elements of a type combined, the first from the lower rank
unfoldable pub combine : Op → ElemType → Element → Element → Element
combine op ty (single a) (single b) = single (on_numbers op ty a b)
combine op ty (pair a i) (pair b j) = if keeps_first op a i b j then pair a i else pair b j
combine op ty (single a) (pair b j) = single a
combine op ty (pair a i) (single b) = pair a i

-- the elements that several ranks give for one place of the result, by rising rank, folded; one
-- alone is itself, unchanged (own rule)
abbrev pub folded : Op → ElemType → List Element → Option Element
folded op ty xs = fold_first (combine op ty) xs
