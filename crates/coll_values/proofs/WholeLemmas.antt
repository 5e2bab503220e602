-- Whole instances of one roll have values of one form.
use Rattle.std.proofs.Common.{◌≡◌, ℕ, ◌<◌, List, [], ◌∷◌, length, map, refl, sym, ap, ◌∙◌, arith}
use Rattle.std.proofs.Common.{Bool, true, false, cond, Option, Some, None, slice_get, pos}
use Rattle.mpi_elems.specs.declared.elem_type.ElemType.{ElemType}
use Rattle.mpi_elems.specs.Types.{is_pair}
use Rattle.mpi_elems.specs.Elements.{Element, single, pair, pairs_of, elements_of}
use Rattle.mpi_elems.specs.Contents.{Contents, elements}
use Rattle.mpi_cart.specs.Grids.{below}
use Rattle.coll_routes.specs.declared.roll.Roll.{Roll}
use Rattle.coll_routes.specs.Signatures.{elem_type, reduction}
use Rattle.coll_routes.specs.Rolls.{given, places}
use Rattle.coll_values.specs.declared.full.Full.{Full}
use Rattle.coll_values.specs.Instances.{elements_in, IsWhole}
use Rattle.coll_values.specs.Values.{sent, block_by, block_of, blocks, value}
use Rattle.coll_values.specs.Forms.{form_of_elements, form_of_part, form, AreOfOneForm}
use Rattle.coll_values.specs.Forms.{WholeInstancesHaveOneForm}
use Rattle.coll_values.proofs.FormLemmas.{forms_are_of_forms}
use Rattle.coll_values.proofs.InstanceLemmas.{not_past}
use Rattle.coll_values.proofs.SourceLemmas.{no_place}

-- ## elements of one form

zero_of : Bool → Element
zero_of true = pair (pos 0) (pos 0)
zero_of false = single (pos 0)

pairs_zero : (numbers : List _) →
    form_of_elements (pairs_of numbers) ≡ map (λ x. zero_of true) (pairs_of numbers)
unfolding zero_of pairs_of
pairs_zero [] = refl
pairs_zero (a ∷ []) = refl
pairs_zero (a ∷ i ∷ rest) = ap (λ es. zero_of true ∷ es) (pairs_zero rest)

singles_zero : (numbers : List _) →
    form_of_elements (map single numbers) ≡ map (λ x. zero_of false) (map single numbers)
unfolding zero_of
singles_zero [] = refl
singles_zero (a ∷ rest) = ap (λ es. zero_of false ∷ es) (singles_zero rest)

form_is_zeros : (ty : ElemType) (numbers : List _) →
    form_of_elements (elements_of ty numbers)
    ≡ map (λ x. zero_of (is_pair ty)) (elements_of ty numbers)
unfolding elements_of
form_is_zeros ty numbers = either (is_pair ty)
  where
    either : (b : Bool) → form_of_elements (cond b (pairs_of numbers) (map single numbers))
        ≡ map (λ x. zero_of b) (cond b (pairs_of numbers) (map single numbers))
    either true = pairs_zero numbers
    either false = singles_zero numbers

same_map : {X Y : Type 0} (y : Y) (xs ys : List X) → length xs ≡ length ys →
    map (λ x. y) xs ≡ map (λ x. y) ys
same_map y [] [] e = refl
same_map y [] (b ∷ ys) e = absurd (cc)
same_map y (a ∷ xs) [] e = absurd (cc)
same_map y (a ∷ xs) (b ∷ ys) e =
    ap (λ zs. y ∷ zs) (same_map y xs ys (let s : length xs ≡ length ys = omega (arith, e) in s))

pub one_form : (a b : Contents) → AreOfOneForm a b → form_of_part a ≡ form_of_part b
one_form a b same =
    form_is_zeros a.elem_type a.numbers
    ∙ ((λ i. map (λ x. zero_of (is_pair (same.of_type i))) (elements a))
    ∙ (same_map (zero_of (is_pair b.elem_type)) (elements a) (elements b) same.number
    ∙ sym (form_is_zeros b.elem_type b.numbers)))

-- ## kinds without elements

nothing : (F : Full Contents) (j : ℕ) → places F.roll j ≡ 0 → form (value F j) ≡ []
unfolding value blocks
nothing F j e =
    let blocks_at = block_by (reduction F.roll.sig) F.roll (λ i t. sent F i j t) j in
    ap (λ n. form (map block_of (map blocks_at (below n)))) e

-- ## whole instances

module _ (F G : Full Contents) (one : F.roll ≡ G.roll)
    (first : IsWhole F) (second : IsWhole G) where
  parts_of_one_form : (ty : ElemType) → elem_type F.roll.sig ≡ Some ty →
      (i : ℕ) → i < F.roll.shape.size → (o q : Option Contents) →
      slice_get F.parts i ≡ o → slice_get G.parts i ≡ q →
      form_of_elements (elements_in o) ≡ form_of_elements (elements_in q)
  parts_of_one_form ty is i low (Some a) (Some b) at there =
      let left = first.each i a at in
      let right = second.each i b there in
      let typed : elem_type G.roll.sig ≡ Some ty =
      ap (λ (r : Roll). elem_type r.sig) (sym one) ∙ is in
      one_form a b (record {
        of_type = left.of_type ty is ∙ sym (right.of_type ty typed);
        number = left.number ∙ (ap (λ r. given r i) one ∙ sym right.number);
      })
  parts_of_one_form ty is i low None q at there =
      let long = first.parts in
      absurd (not_past F.parts i at (omega arith))
  parts_of_one_form ty is i low (Some a) None at there =
      let long = second.parts in
      let size : F.roll.shape.size ≡ G.roll.shape.size = ap (λ (r : Roll). r.shape.size) one in
      absurd (not_past G.parts i there (omega arith))

  by_type : (j : ℕ) (o : Option ElemType) → elem_type F.roll.sig ≡ o →
      form (value F j) ≡ form (value G j)
  by_type j (Some ty) is =
      forms_are_of_forms F G j (record {
        roll = one;
        forms = λ i low.
            parts_of_one_form ty is i low (slice_get F.parts i) (slice_get G.parts i) refl refl;
      })
  by_type j None is =
      let none = no_place F.roll.sig F.roll.shape j is in
      nothing F j none ∙ sym (nothing G j (ap (λ r. places r j) (sym one) ∙ none))

pub whole_instances_have_one_form : WholeInstancesHaveOneForm
whole_instances_have_one_form F G j one first second =
    by_type F G one first second j (elem_type F.roll.sig) refl
