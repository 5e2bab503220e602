-- The form of elements and of values: what is left of them without their numbers.
use Rattle.std.specs.Prelude.{◌≡◌, ◌<◌, ℕ, ℤ, pos, List, map, length}
use Rattle.mpi_elems.specs.Elements.{Element, single, pair}
use Rattle.mpi_elems.specs.Contents.{Contents, elements}
use Rattle.coll_values.specs.declared.full.Full.{Full}
use Rattle.coll_values.specs.declared.delivery.Block.{Block}
use Rattle.coll_values.specs.declared.delivery.Block.TheVariants.{Missing, Numbers}
use Rattle.coll_values.specs.Instances.{part, IsWhole}
use Rattle.coll_values.specs.Values.{value}

-- an element with 0 in the place of each number
abbrev pub form_of_element : Element → Element
form_of_element (single a) = single (pos 0)
form_of_element (pair a i) = pair (pos 0) (pos 0)

abbrev pub form_of_elements : List Element → List Element
form_of_elements elements = map form_of_element elements

-- as many elements, each single or a pair
abbrev pub form_of_part : Contents → List Element
form_of_part part = form_of_elements (elements part)

abbrev pub zeros_for : List ℤ → List ℤ
zeros_for numbers = map (λ n. pos 0) numbers

abbrev pub form_of_block : Block → Block
form_of_block Missing = Missing
form_of_block (Numbers numbers) = Numbers (zeros_for numbers)

-- the form of a value: as many blocks, Missing at the same places, and as many numbers in each
abbrev pub form : List Block → List Block
form blocks = map form_of_block blocks

-- as many elements, of one type
pub record AreOfOneForm (a b : Contents) : Type 0 where
  pub of_type : a.elem_type ≡ b.elem_type
  pub number : length (elements a) ≡ length (elements b)

-- two instances of one roll, to which each rank gave elements of the same form
pub record AgreeInForm (F G : Full Contents) : Type 0 where
  pub roll : F.roll ≡ G.roll
  pub forms : (i : ℕ) → i < F.roll.shape.size →
      form_of_elements (part F i) ≡ form_of_elements (part G i)

-- the form of a value is of the form of what the ranks gave alone: it tells nothing of the numbers
abbrev pub FormsAreOfForms : Type 0
FormsAreOfForms =
    (F G : Full Contents) (j : ℕ) → AgreeInForm F G → form (value F j) ≡ form (value G j)

-- so whole instances of one roll have values of one form
abbrev pub WholeInstancesHaveOneForm : Type 0
WholeInstancesHaveOneForm = (F G : Full Contents) (j : ℕ) → F.roll ≡ G.roll →
    IsWhole F → IsWhole G → form (value F j) ≡ form (value G j)
