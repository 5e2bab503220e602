-- Elements and their numbers.
use Rattle.std.proofs.Common.{◌≡◌, ℕ, ◌%◌, ◌&&◌, Bool, true, false, List, [], ◌∷◌, ◌++◌, length}
use Rattle.std.proofs.Common.{map, ℤ, pos, refl, ap, sym, ◌∙◌, arith, subst, IsTrue, ◌↔◌, nat_eq}
use Rattle.std.proofs.Common.{if◌then◌else◌}
use Rattle.std.specs.Bool.{Decides}
use Rattle.std.specs.Ordering.{int_eq}
use Rattle.std.specs.Cmp.Lexicographic.{pointwise}
use Rattle.std.proofs.lemmas.Slice.Eq.{slice_eq-Decides}
use Rattle.std.proofs.lemmas.Bool.Decides.{Decides-eqb, Decides-int_eq, Decides-and}
use Rattle.std.proofs.lemmas.Simd.{map-map}
use Rattle.std.specs.List.{list_all}
use Rattle.mpi_elems.specs.declared.elem_type.ElemType.{ElemType}
use Rattle.mpi_elems.specs.declared.elem_type.ElemType.TheVariants.{Int8, Int16, Int32, Int64}
use Rattle.mpi_elems.specs.declared.elem_type.ElemType.TheVariants.{Uint8, Uint16, Uint32, Uint64}
use Rattle.mpi_elems.specs.declared.elem_type.ElemType.TheVariants.{TwoInt}
use Rattle.mpi_elems.specs.Types.{is_pair}
use Rattle.mpi_elems.specs.Numbers.{is_number_of}
use Rattle.mpi_elems.specs.Elements.{Element, single, pair, numbers_of, pairs_of, elements_of}
use Rattle.mpi_elems.specs.Elements.{is_element_of}
use Rattle.mpi_elems.specs.Loops.{singles, pairs}
use Rattle.mpi_elems.specs.declared.cells.Cells.{Cells}
use Rattle.mpi_elems.specs.declared.cells.Cells.TheVariants.{I8, I16, I32, I64, U8, U16, U32, U64}
use Rattle.mpi_elems.specs.declared.cells.Cells.TheVariants.{Pairs}
use Rattle.mpi_elems.specs.Shown.{kind_of, elements_in, AreFit, shown}
use Rattle.mpi_elems.specs.Contents.{Contents, elements, IsFit}

pub numbers_of-append : (xs ys : List Element) →
    numbers_of (xs ++ ys) ≡ numbers_of xs ++ numbers_of ys
unfolding numbers_of
numbers_of-append [] ys = refl
numbers_of-append (single a ∷ xs) ys = ap (λ (ns : List ℤ). a ∷ ns) (numbers_of-append xs ys)
numbers_of-append (pair a i ∷ xs) ys = ap (λ (ns : List ℤ). a ∷ i ∷ ns) (numbers_of-append xs ys)

pub numbers_of-singles : {A : Type 0} (f : A → ℤ) (xs : List A) →
    numbers_of (singles f xs) ≡ map f xs
unfolding numbers_of
numbers_of-singles f [] = refl
numbers_of-singles f (x ∷ xs) = ap (λ (ns : List ℤ). f x ∷ ns) (numbers_of-singles f xs)

-- cutting the numbers of elements gives the elements
pub elements_of-singles : {A : Type 0} (ty : ElemType) (f : A → ℤ) (xs : List A) →
    is_pair ty ≡ false → elements_of ty (numbers_of (singles f xs)) ≡ singles f xs
unfolding elements_of
elements_of-singles ty f xs e = rw (e, numbers_of-singles f xs) (map-map single f xs)

pub pairs_of-pairs : (ps : List (ℤ × ℤ)) → pairs_of (numbers_of (pairs ps)) ≡ pairs ps
unfolding numbers_of pairs_of
pairs_of-pairs [] = refl
pairs_of-pairs (p ∷ ps) = ap (λ (es : List Element). pair p.0 p.1 ∷ es) (pairs_of-pairs ps)

elements_of-pairs : (ps : List (ℤ × ℤ)) → elements_of TwoInt (numbers_of (pairs ps)) ≡ pairs ps
unfolding elements_of
elements_of-pairs ps = pairs_of-pairs ps

pub elements_of-elements_in : (c : Cells) →
    elements_of (kind_of c) (numbers_of (elements_in c)) ≡ elements_in c
elements_of-elements_in (I8 v) = elements_of-singles Int8 (λ x. x) v.items refl
elements_of-elements_in (I16 v) = elements_of-singles Int16 (λ x. x) v.items refl
elements_of-elements_in (I32 v) = elements_of-singles Int32 (λ x. x) v.items refl
elements_of-elements_in (I64 v) = elements_of-singles Int64 (λ x. x) v.items refl
elements_of-elements_in (U8 v) = elements_of-singles Uint8 (λ x. pos x) v.items refl
elements_of-elements_in (U16 v) = elements_of-singles Uint16 (λ x. pos x) v.items refl
elements_of-elements_in (U32 v) = elements_of-singles Uint32 (λ x. pos x) v.items refl
elements_of-elements_in (U64 v) = elements_of-singles Uint64 (λ x. pos x) v.items refl
elements_of-elements_in (Pairs v) = elements_of-pairs v.items

-- numbers that aren't cut in the midst of a pair are the numbers of their elements
numbers_of-pairs_of : (ns : List ℤ) → length ns % 2 ≡ 0 → numbers_of (pairs_of ns) ≡ ns
unfolding numbers_of pairs_of
numbers_of-pairs_of [] e = refl
numbers_of-pairs_of (a ∷ []) e = absurd (omega arith)
numbers_of-pairs_of (a ∷ i ∷ ns) e =
    let rest : length ns % 2 ≡ 0 = omega arith in
    ap (λ (ms : List ℤ). a ∷ i ∷ ms) (numbers_of-pairs_of ns rest)

numbers_of-map-single : (ns : List ℤ) → numbers_of (map single ns) ≡ ns
unfolding numbers_of
numbers_of-map-single [] = refl
numbers_of-map-single (n ∷ ns) = ap (λ (ms : List ℤ). n ∷ ms) (numbers_of-map-single ns)

pub numbers_of-elements_of : (ty : ElemType) (ns : List ℤ) →
    (is_pair ty ≡ true → length ns % 2 ≡ 0) → numbers_of (elements_of ty ns) ≡ ns
unfolding elements_of
numbers_of-elements_of Int8 ns even = numbers_of-map-single ns
numbers_of-elements_of Int16 ns even = numbers_of-map-single ns
numbers_of-elements_of Int32 ns even = numbers_of-map-single ns
numbers_of-elements_of Int64 ns even = numbers_of-map-single ns
numbers_of-elements_of Uint8 ns even = numbers_of-map-single ns
numbers_of-elements_of Uint16 ns even = numbers_of-map-single ns
numbers_of-elements_of Uint32 ns even = numbers_of-map-single ns
numbers_of-elements_of Uint64 ns even = numbers_of-map-single ns
numbers_of-elements_of TwoInt ns even = numbers_of-pairs_of ns (even refl)

and_assoc : (a b c : Bool) → (a && (b && c)) ≡ ((a && b) && c)
and_assoc true b c = refl
and_assoc false b c = refl

-- the numbers of elements are of a type where the elements are
pub list_all-numbers_of : (ty : ElemType) (es : List Element) →
    list_all (is_number_of ty) (numbers_of es) ≡ list_all (is_element_of ty) es
unfolding numbers_of
list_all-numbers_of ty [] = refl
list_all-numbers_of ty (single a ∷ es) =
    ap (λ (b : Bool). is_number_of ty a && b) (list_all-numbers_of ty es)
list_all-numbers_of ty (pair a i ∷ es) =
    ap (λ (b : Bool). is_number_of ty a && (is_number_of ty i && b)) (list_all-numbers_of ty es)
    ∙ and_assoc (is_number_of ty a) (is_number_of ty i) _

pub cells_are_fit : (c : Cells) → AreFit c → IsFit (shown c)
cells_are_fit c h = record {
  of_type = list_all-numbers_of (kind_of c) (elements_in c) ∙ h;
  whole = ap numbers_of (elements_of-elements_in c);
}

-- the elements of a buffer that shows these cells
pub elements_shown : (c : Cells) (b : Contents) → shown c ≡ b → elements b ≡ elements_in c
elements_shown c b e = ap elements (sym e) ∙ elements_of-elements_in c

pub buffer_is_fit : (c : Cells) (b : Contents) → shown c ≡ b → AreFit c → IsFit b
buffer_is_fit c b e h = let P : Contents → Type 0 = λ d. IsFit d in subst P e (cells_are_fit c h)

-- two buffers show the same numbers where their cells show the same elements
pub same_numbers : (b : Bool) (c d : Cells) (x y : Contents) → shown c ≡ x → shown d ≡ y →
    (IsTrue b ↔ ((kind_of c ≡ kind_of d) × (elements_in c ≡ elements_in d))) →
    (IsTrue b ↔ ((x.elem_type ≡ y.elem_type) × (x.numbers ≡ y.numbers)))
same_numbers b c d x y ex ey h =
    let kc : kind_of c ≡ x.elem_type = ap (λ (z : Contents). z.elem_type) ex in
    let kd : kind_of d ≡ y.elem_type = ap (λ (z : Contents). z.elem_type) ey in
    let nc : numbers_of (elements_in c) ≡ x.numbers = ap (λ (z : Contents). z.numbers) ex in
    let nd : numbers_of (elements_in d) ≡ y.numbers = ap (λ (z : Contents). z.numbers) ey in (
      λ t. let k = h.0 t in (sym kc ∙ k.0 ∙ kd, sym nc ∙ ap numbers_of k.1 ∙ nd),
      λ s. let e : elements_of (kind_of c) (numbers_of (elements_in c)) ≡ elements_of (kind_of d)
          (numbers_of (elements_in d)) = rw (kc, kd, nc, nd, s.0, s.1) refl in
          h.1 (kc ∙ s.0 ∙ sym kd, sym (elements_of-elements_in c) ∙ e ∙ elements_of-elements_in d),
    )

pub length-numbers_of-singles : {A : Type 0} (f : A → ℤ) (xs : List A) →
    length (numbers_of (singles f xs)) ≡ length xs
unfolding numbers_of
length-numbers_of-singles f [] = refl
length-numbers_of-singles f (x ∷ xs) = omega (arith, length-numbers_of-singles f xs)

-- lists that a test tells apart show the same elements where the test holds
map-injective : {A : Type 0} (g : A → Element) → ((x y : A) → g x ≡ g y → x ≡ y) →
    (xs ys : List A) → map g xs ≡ map g ys → xs ≡ ys
map-injective g inj [] [] e = refl
map-injective g inj [] (y ∷ ys) e = cc
map-injective g inj (x ∷ xs) [] e = cc
map-injective g inj (x ∷ xs) (y ∷ ys) e =
    let first : g x ≡ g y = cc in
    let others : map g xs ≡ map g ys = cc in
    let same = inj x y first in
    let rest = map-injective g inj xs ys others in
    cc

tells : {A : Type 0} (g : A → Element) → ((x y : A) → g x ≡ g y → x ≡ y) →
    (ty : ElemType) (xs ys : List A) (r : Bool) → Decides r (xs ≡ ys) → IsTrue r ↔
    ((ty ≡ ty) × (map g xs ≡ map g ys))
tells g inj ty xs ys r d =
    (λ t. (refl, ap (map g) (d.0 t)), λ s. d.1 (map-injective g inj xs ys s.1))

pub signed_tells : (ty : ElemType) (xs ys sx sy : List ℤ) (r : Bool) → sx ≡ xs → sy ≡ ys →
    r ≡ pointwise int_eq sx sy → IsTrue r ↔
    ((ty ≡ ty) × (singles (λ x. x) xs ≡ singles (λ x. x) ys))
signed_tells ty xs ys sx sy r ex ey e = tells (λ x. single x) (λ x y h. cc) ty xs ys r
    (slice_eq-Decides Decides-int_eq xs ys r (e ∙ rw (ex, ey) refl))

pub unsigned_tells : (ty : ElemType) (xs ys sx sy : List ℕ) (r : Bool) → sx ≡ xs → sy ≡ ys →
    r ≡ pointwise nat_eq sx sy → IsTrue r ↔
    ((ty ≡ ty) × (singles (λ x. pos x) xs ≡ singles (λ x. pos x) ys))
unsigned_tells ty xs ys sx sy r ex ey e = tells (λ x. single (pos x)) (λ x y h. cc) ty xs ys r
    (slice_eq-Decides Decides-eqb xs ys r (e ∙ rw (ex, ey) refl))

both_same : (p q : ℤ × ℤ) → (p.0 ≡ q.0) × (p.1 ≡ q.1) → p ≡ q
both_same p q e =
    let first : ℤ → ℤ × ℤ = λ x. (x, p.1) in
    let second : ℤ → ℤ × ℤ = λ x. (q.0, x) in
    ap first e.0 ∙ ap second e.1

pair_parts : (p q : ℤ × ℤ) → pair p.0 p.1 ≡ pair q.0 q.1 → (p.0 ≡ q.0) × (p.1 ≡ q.1)
pair_parts p q h = ((cc), (cc))

Decides-pair_eq : (p q : ℤ × ℤ) → Decides (int_eq p.0 q.0 && int_eq p.1 q.1) (p ≡ q)
Decides-pair_eq p q = let d = Decides-and _ _ (Decides-int_eq p.0 q.0) (Decides-int_eq p.1 q.1) in
    (λ t. both_same p q (d.0 t), λ s. d.1 (ap (λ (r : ℤ × ℤ). r.0) s, ap (λ (r : ℤ × ℤ). r.1) s))

pub pairs_tell : (xs ys sx sy : List (ℤ × ℤ)) (r : Bool) → sx ≡ xs → sy ≡ ys →
    r ≡ pointwise (λ (p q : ℤ × ℤ). int_eq p.0 q.0 && int_eq p.1 q.1) sx sy → IsTrue r ↔
    ((TwoInt ≡ TwoInt) × (pairs xs ≡ pairs ys))
pairs_tell xs ys sx sy r ex ey e = tells (λ p. pair p.0 p.1)
    (λ p q h. both_same p q (pair_parts p q h)) TwoInt xs ys r
    (slice_eq-Decides Decides-pair_eq xs ys r (e ∙ rw (ex, ey) refl))

pub elements_of_fit : (ty : ElemType) (ns : List ℤ) → (is_pair ty ≡ true → length ns % 2 ≡ 0) →
    list_all (is_number_of ty) ns ≡ true → list_all (is_element_of ty) (elements_of ty ns) ≡ true
elements_of_fit ty ns even h =
    sym (list_all-numbers_of ty (elements_of ty ns))
    ∙ ap (list_all (is_number_of ty)) (numbers_of-elements_of ty ns even) ∙ h

neither : (b : Bool) → (if b then pairs_of [] else map single []) ≡ []
unfolding pairs_of
neither true = refl
neither false = refl

-- no numbers are no elements
pub elements_of-nil : (ty : ElemType) → elements_of ty [] ≡ []
unfolding elements_of pairs_of
elements_of-nil ty = neither (is_pair ty)
