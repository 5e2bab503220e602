-- The form of a value is of the form of what the ranks gave.
use Rattle.std.proofs.Common.{◌≡◌, ℕ, zero, suc, ◌+◌, ◌<◌, List, [], ◌∷◌, ◌++◌, length, ◌∙◌, ap}
use Rattle.std.proofs.Common.{refl, sym, arith, Bool, true, false, cond, Option, Some, None}
use Rattle.std.proofs.Common.{slice_get, map, fold, max, filter, filter_map, flat_map, option_map}
use Rattle.std.specs.List.{range_with_len, cons_option}
use Rattle.std.proofs.lemmas.Option.{slice_get-map}
use Rattle.std.proofs.lemmas.List.{length-map, map-append}
use Rattle.wall_labels.specs.declared.op.Op.{Op}
use Rattle.mpi_elems.specs.declared.elem_type.ElemType.{ElemType}
use Rattle.mpi_elems.specs.Elements.{Element, single, pair, numbers_of, combine, folded}
use Rattle.mpi_elems.specs.Operations.{keeps_first}
use Rattle.mpi_elems.specs.Contents.{Contents}
use Rattle.mpi_cart.specs.Grids.{below}
use Rattle.coll_routes.specs.declared.roll.Roll.{Roll}
use Rattle.coll_routes.specs.Signatures.{reduction}
use Rattle.coll_routes.specs.Rolls.{given, goes, places, ranks, is_missing}
use Rattle.coll_routes.specs.Faults.{stated_type}
use Rattle.coll_values.specs.declared.full.Full.{Full}
use Rattle.coll_values.specs.declared.delivery.Block.TheVariants.{Numbers}
use Rattle.coll_values.specs.Instances.{part, element}
use Rattle.coll_values.specs.Values.{sent, Sendings, copied, breadth, folded_at, reduced, block_by}
use Rattle.coll_values.specs.Values.{block_of, blocks, value}
use Rattle.coll_values.specs.Forms.{form_of_element, form_of_elements, zeros_for, form_of_block}
use Rattle.coll_values.specs.Forms.{form, FormsAreOfForms}
use Rattle.coll_values.proofs.LawLemmas.{map_same, filter_map_same}
use Rattle.coll_values.proofs.RoomLemmas.{map_map}

-- ## forms of lists

pub map_cons_option : {X Y : Type 0} (f : X → Y) (o : Option X) (xs : List X) →
    map f (cons_option o xs) ≡ cons_option (option_map f o) (map f xs)
map_cons_option f None xs = refl
map_cons_option f (Some x) xs = refl

map_filter_map : {X Y Z : Type 0} (f : Y → Z) (g : X → Option Y) (xs : List X) →
    map f (filter_map g xs) ≡ filter_map (λ x. option_map f (g x)) xs
map_filter_map f g [] = refl
map_filter_map f g (x ∷ xs) = map_cons_option f (g x) (filter_map g xs)
    ∙ ap (cons_option (option_map f (g x))) (map_filter_map f g xs)

flat_map_forms : (f g : ℕ → List Element) (a n : ℕ) →
    ((k : ℕ) → k < a + n → form_of_elements (f k) ≡ form_of_elements (g k)) →
    form_of_elements (flat_map f (range_with_len a n))
    ≡ form_of_elements (flat_map g (range_with_len a n))
flat_map_forms f g a zero h = refl
flat_map_forms f g a (suc n) h =
    map-append form_of_element (f a) (flat_map f (range_with_len (a + 1) n))
    ∙ ((λ i. h a (omega arith) i ++ flat_map_forms f g (a + 1) n (λ k low. h k (omega arith)) i)
    ∙ sym (map-append form_of_element (g a) (flat_map g (range_with_len (a + 1) n))))

-- ## forms of folds

either_pair : (b : Bool) (a i c j : _) → form_of_element (cond b (pair a i) (pair c j))
    ≡ form_of_element (pair a i)
either_pair true a i c j = refl
either_pair false a i c j = refl

combine_form : (op : Op) (ty : ElemType) (x y : Element) → form_of_element (combine op ty x y)
    ≡ form_of_element x
unfolding combine
combine_form op ty (single a) (single b) = refl
combine_form op ty (pair a i) (pair b j) = either_pair (keeps_first op a i b j) a i b j
combine_form op ty (single a) (pair b j) = refl
combine_form op ty (pair a i) (single b) = refl

fold_form : (op : Op) (ty : ElemType) (x : Element) (xs : List Element) →
    form_of_element (fold (combine op ty) x xs) ≡ form_of_element x
fold_form op ty x [] = refl
fold_form op ty x (y ∷ xs) = fold_form op ty (combine op ty x y) xs ∙ combine_form op ty x y

first_of_list : List Element → Option Element
first_of_list [] = None
first_of_list (x ∷ xs) = Some x

folded_form : (op : Op) (ty : ElemType) (xs : List Element) →
    option_map form_of_element (folded op ty xs) ≡ first_of_list (form_of_elements xs)
unfolding first_of_list
folded_form op ty [] = refl
folded_form op ty (x ∷ xs) = ap (λ e. Some e) (fold_form op ty x xs)

-- ## forms of what is sent make the form of a value

module _ (roll : Roll) (s r : Sendings)
    (same : (i t : ℕ) → i < roll.shape.size → form_of_elements (s i t) ≡ form_of_elements (r i t))
  where
    long : (i : ℕ) → i < roll.shape.size → length (s i 0) ≡ length (r i 0)
    long i low = sym (length-map (s i 0) form_of_element)
        ∙ (ap length (same i 0 low) ∙ length-map (r i 0) form_of_element)

    breadth_same : breadth roll s ≡ breadth roll r
    breadth_same =
        ap (fold max 0) (map_same (λ i. length (s i 0)) (λ i. length (r i 0)) 0 roll.shape.size
        (λ i low. long i (omega arith)))

    element_form : (y i : ℕ) → i < roll.shape.size →
        option_map form_of_element (slice_get (s i 0) y)
        ≡ option_map form_of_element (slice_get (r i 0) y)
    element_form y i low = sym (slice_get-map form_of_element (s i 0) y)
        ∙ (ap (λ xs. slice_get xs y) (same i 0 low) ∙ slice_get-map form_of_element (r i 0) y)

    row_forms : (y : ℕ) → form_of_elements (filter_map (λ i. slice_get (s i 0) y) (ranks roll))
        ≡ form_of_elements (filter_map (λ i. slice_get (r i 0) y) (ranks roll))
    row_forms y =
        map_filter_map form_of_element (λ i. slice_get (s i 0) y) (ranks roll)
        ∙ (filter_map_same (λ i. option_map form_of_element (slice_get (s i 0) y))
        (λ i. option_map form_of_element (slice_get (r i 0) y)) 0 roll.shape.size
        (λ i low. element_form y i (omega arith))
        ∙ sym (map_filter_map form_of_element (λ i. slice_get (r i 0) y) (ranks roll)))

    folded_forms : (op : Op) (y : ℕ) → option_map form_of_element (folded_at op roll s y)
        ≡ option_map form_of_element (folded_at op roll r y)
    unfolding folded_at
    folded_forms op y =
        folded_form op (stated_type roll.sig) (filter_map (λ i. slice_get (s i 0) y) (ranks roll))
        ∙ (ap first_of_list (row_forms y)
        ∙ sym
        (folded_form op (stated_type roll.sig)
        (filter_map (λ i. slice_get (r i 0) y) (ranks roll))))

    reduced_forms : (op : Op) → form_of_elements (reduced op roll s)
        ≡ form_of_elements (reduced op roll r)
    reduced_forms op =
        map_filter_map form_of_element (folded_at op roll s) (below (breadth roll s))
        ∙ ((λ i. filter_map (λ y. folded_forms op y i) (below (breadth_same i)))
        ∙ sym (map_filter_map form_of_element (folded_at op roll r) (below (breadth roll r))))

    copied_forms : (t : ℕ) → form_of_elements (copied roll s t) ≡ form_of_elements (copied roll r t)
    copied_forms t = flat_map_forms (λ i. s i t) (λ i. r i t) 0 roll.shape.size
        (λ i low. same i t (omega arith))

    missing_or : (b : Bool) (t : ℕ) →
        option_map form_of_elements (cond b None (Some (copied roll s t)))
        ≡ option_map form_of_elements (cond b None (Some (copied roll r t)))
    missing_or true t = refl
    missing_or false t = ap (λ es. Some es) (copied_forms t)

    block_forms : (o : Option Op) (j t : ℕ) → option_map form_of_elements (block_by o roll s j t)
        ≡ option_map form_of_elements (block_by o roll r j t)
    block_forms (Some op) j t = ap (λ es. Some es) (reduced_forms op)
    block_forms None j t = missing_or (is_missing roll j t) t

-- ## numbers

zeros_are : (es : List Element) → zeros_for (numbers_of es) ≡ numbers_of (form_of_elements es)
unfolding numbers_of
zeros_are [] = refl
zeros_are (single a ∷ rest) = ap (λ ns. Rattle.std.specs.Prelude.pos 0 ∷ ns) (zeros_are rest)
zeros_are (pair a i ∷ rest) =
    ap (λ ns. Rattle.std.specs.Prelude.pos 0 ∷ Rattle.std.specs.Prelude.pos 0 ∷ ns) (zeros_are rest)

block_form : (o : Option (List Element)) → form_of_block (block_of o)
    ≡ block_of (option_map form_of_elements o)
block_form None = refl
block_form (Some es) = ap (λ ns. Numbers ns) (zeros_are es)

form_is : (o : Option Op) (roll : Roll) (s : Sendings) (j n : ℕ) →
    form (map block_of (map (block_by o roll s j) (below n)))
    ≡ map (λ t. block_of (option_map form_of_elements (block_by o roll s j t))) (below n)
form_is o roll s j n =
    map_map form_of_block block_of (map (block_by o roll s j) (below n))
    ∙ (map_map (λ b. form_of_block (block_of b)) (block_by o roll s j) (below n)
    ∙ (λ i. map (λ t. block_form (block_by o roll s j t) i) (below n)))

-- ## instances

sent_form : (F : Full Contents) (i j t : ℕ) → form_of_elements (sent F i j t)
    ≡ filter_map (λ x. slice_get (form_of_elements (part F i)) x)
    (filter (λ x. goes F.roll i x j t) (below (given F.roll i)))
unfolding sent
sent_form F i j t =
    map_filter_map form_of_element (element F i)
    (filter (λ x. goes F.roll i x j t) (below (given F.roll i)))
    ∙ (λ k. filter_map (λ x. sym (slice_get-map form_of_element (part F i) x) k)
    (filter (λ x. goes F.roll i x j t) (below (given F.roll i))))

sent_forms : (F G : Full Contents) (i j t : ℕ) → F.roll ≡ G.roll → form_of_elements (part F i)
    ≡ form_of_elements (part G i) → form_of_elements (sent F i j t)
    ≡ form_of_elements (sent G i j t)
sent_forms F G i j t one same =
    sent_form F i j t
    ∙
    ((λ k. filter_map (λ x. slice_get (same k) x)
    (filter (λ x. goes (one k) i x j t) (below (given (one k) i))))
    ∙ sym (sent_form G i j t))

pub forms_are_of_forms : FormsAreOfForms
unfolding value blocks
forms_are_of_forms F G j agree =
    let o = reduction F.roll.sig in
    let n = places F.roll j in
    let sendings : (i t : ℕ) → i < F.roll.shape.size → form_of_elements (sent F i j t)
    ≡ form_of_elements (sent G i j t) =
    λ i t low. sent_forms F G i j t agree.roll (agree.forms i low) in
    form_is o F.roll (λ i t. sent F i j t) j n
    ∙
    ((λ k. map
    (λ t. block_of (block_forms F.roll (λ i t. sent F i j t) (λ i t. sent G i j t) sendings o j
    t k)) (below n))
    ∙ (sym (form_is o F.roll (λ i t. sent G i j t) j n)
    ∙ ap
    (λ (r : Roll). form
    (map block_of (map (block_by (reduction r.sig) r (λ i t. sent G i j t) j)
    (below (places r j))))) agree.roll))
