-- The numbers of elements.
use Rattle.std.proofs.Common.{◌≡◌, List, [], ◌++◌, ◌∙◌, ap, sym}
use Rattle.std.specs.List.{list_all}
use Rattle.mpi_elems.specs.Numbers.{is_number_of}
use Rattle.mpi_elems.specs.Elements.{Element, numbers_of, elements_of}
use Rattle.mpi_elems.specs.Contents.{Contents, elements, IsFit}
use Rattle.mpi_elems.proofs.MpiElemsLemmas.{elements_of-nil}

-- a buffer without numbers has no elements
pub no_elements : (b : Contents) → b.numbers ≡ [] → elements b ≡ []
no_elements b e = ap (elements_of b.elem_type) e ∙ elements_of-nil b.elem_type

pub no_numbers : (b : Contents) → b.numbers ≡ [] → IsFit b
unfolding numbers_of
no_numbers b e = record {
  of_type = ap (list_all (is_number_of b.elem_type)) e;
  whole = ap numbers_of (no_elements b e) ∙ sym e;
}

-- the numbers of a fit buffer are those of its elements
pub numbers_are : (b : Contents) (es : List Element) → IsFit b → elements b ≡ es →
    b.numbers ≡ numbers_of es
numbers_are b es fit e = sym fit.whole ∙ ap numbers_of e

-- an empty buffer to which elements were appended
pub filled_by : (old new : Contents) (es ss : List Element) → old.numbers ≡ [] →
    elements new ≡ elements old ++ ss → IsFit new → es ≡ ss → new.numbers ≡ numbers_of es
filled_by old new es ss e f fit g =
    numbers_are new es fit (f ∙ (ap (λ xs. xs ++ ss) (no_elements old e) ∙ sym g))

pub left_empty : (b : Contents) (es : List Element) → b.numbers ≡ [] → es ≡ [] →
    b.numbers ≡ numbers_of es
unfolding numbers_of
left_empty b es e f = e ∙ sym (ap numbers_of f)
