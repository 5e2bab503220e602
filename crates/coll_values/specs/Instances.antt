-- An instance with the elements that each rank gave.
use Rattle.std.specs.Prelude.{◌≡◌, ◌==◌, ◌&&◌, ℕ, List, [], length, slice_get, Bool, true, not}
use Rattle.std.specs.Prelude.{Option, Some, None}
use Rattle.std.specs.List.{list_any}
use Rattle.mpi_elems.specs.declared.elem_type.ElemType.{ElemType}
use Rattle.mpi_elems.specs.Elements.{Element}
use Rattle.mpi_elems.specs.Contents.{Contents, elements}
use Rattle.coll_routes.specs.declared.roll.Roll.{Roll}
use Rattle.coll_routes.specs.Signatures.{elem_type}
use Rattle.coll_routes.specs.Rolls.{given, ranks}
use Rattle.coll_routes.specs.Fit.{IsFit, is_fit}
use Rattle.coll_routes.specs.Faults.{is_of_type}
use Rattle.coll_values.specs.declared.full.Full.{Full}

abbrev pub elements_in : Option Contents → List Element
elements_in (Some part) = elements part
elements_in None = []

-- what rank i gave
abbrev pub part : Full Contents → ℕ → List Element
part F i = elements_in (slice_get F.parts i)

-- element x of what rank i gave; a pair is one element
abbrev pub element : Full Contents → (i x : ℕ) → Option Element
element F i x = slice_get (part F i) x

-- a rank gave as many elements as it stated, of the signature's type
pub record IsPart (roll : Roll) (i : ℕ) (given_part : Contents) : Type 0 where
  pub number : length (elements given_part) ≡ given roll i
  pub of_type : (ty : ElemType) → elem_type roll.sig ≡ Some ty → given_part.elem_type ≡ ty

-- the roll is fit, and each rank gave what it stated
pub record IsWhole (F : Full Contents) : Type 0 where
  pub roll : IsFit F.roll
  pub parts : length F.parts ≡ F.roll.shape.size
  pub each : (i : ℕ) (given_part : Contents) → slice_get F.parts i ≡ Some given_part →
      IsPart F.roll i given_part

-- ## the same as a test

abbrev pub is_part : Roll → (i : ℕ) → Contents → Bool
is_part roll i given_part = length (elements given_part) == given roll i
    && is_of_type (elem_type roll.sig) given_part.elem_type

abbrev pub is_no_part : Roll → (i : ℕ) → Option Contents → Bool
is_no_part roll i (Some given_part) = not (is_part roll i given_part)
is_no_part roll i None = true

unfoldable pub is_whole : Full Contents → Bool
is_whole F =
    is_fit F.roll
    && length F.parts == F.roll.shape.size
    && not (list_any (λ i. is_no_part F.roll i (slice_get F.parts i)) (ranks F.roll))
