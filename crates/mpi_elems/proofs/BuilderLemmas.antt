-- Buffers in the making.
use Rattle.std.proofs.Common.{◌≡◌, ℕ, ◌<◌, ◌*◌, ◌%◌, ◌&&◌, Bool, true, false, List, [], ◌∷◌, ◌++◌}
use Rattle.std.proofs.Common.{length, ℤ, Option, Some, None, refl, ap, sym, ◌∙◌, arith}
use Rattle.std.proofs.Common.{append_assoc, length-append, option_to_list, if◌then◌else◌, not, ◌==◌}
use Rattle.std.proofs.Common.{◌+◌, map, pos, subst}
use Rattle.std.proofs.lemmas.List.{map-append, length-map}
use Rattle.std.specs.List.{list_all}
use Rattle.std.proofs.lemmas.List.{append-nil}
use Rattle.std.proofs.lemmas.List.Folds.{list_all-append}
use Rattle.mpi_elems.specs.declared.elem_type.ElemType.{ElemType}
use Rattle.mpi_elems.specs.declared.fault.BufferFault.TheVariants.{OddPair}
use Rattle.mpi_elems.specs.Types.{is_pair, numbers_per_element}
use Rattle.mpi_elems.specs.Numbers.{is_number_of}
use Rattle.mpi_elems.specs.Elements.{single, pair, numbers_of}
use Rattle.mpi_elems.specs.Contents.{Contents}
use Rattle.mpi_elems.specs.Loops.{singles, pairs}
use Rattle.mpi_elems.specs.Faults.{fault_of}
use Rattle.mpi_elems.specs.declared.cells.Cells.{Cells}
use Rattle.mpi_elems.specs.declared.cells.Cells.TheVariants.{I8, I16, I32, I64, U8, U16, U32, U64}
use Rattle.mpi_elems.specs.declared.cells.Cells.TheVariants.{Pairs}
use Rattle.mpi_elems.specs.Shown.{kind_of, elements_in, room_of, draft, AreFit, IsDraft}
use Rattle.mpi_elems.proofs.ElementLemmas.{list_all-numbers_of, numbers_of-singles}
use Rattle.mpi_elems.proofs.ElementLemmas.{length-numbers_of-singles}
use Rattle.mpi_elems.proofs.ReadingLemmas.{length-numbers_of-pairs, numbers_of-pairs-more}

-- no half stands after the numbers of single elements
pub single_pushed : (ms ns extra : List ℤ) (half : Option ℤ) → half ≡ None → ms ≡ ns ++ extra →
    ms ++ option_to_list half ≡ (ns ++ option_to_list half) ++ extra
single_pushed ms ns extra half none e = rw (none, e, append-nil (ns ++ extra), append-nil ns) refl

-- a number of the type, or none, after others
pub pushed_fit : (p : ℤ → Bool) (ns ms : List ℤ) (r : Bool) (n : ℤ) → r ≡ p n →
    ms ≡ ns ++ (if r then n ∷ [] else []) → list_all p ns ≡ true → list_all p ms ≡ true
pushed_fit p ns ms true n is e h = rw (e, list_all-append p ns (n ∷ []), h, ← is) refl
pushed_fit p ns ms false n is e h = rw (e, append-nil ns) h

first_half : (b c : Bool) → (b && c) ≡ true → b ≡ true
first_half true c e = refl
first_half false c e = cc

-- the whole elements of a buffer in the making
pub draft_fit : (c : Cells) (half : Option ℤ) → IsDraft c half → AreFit c
draft_fit c half h =
    sym (list_all-numbers_of (kind_of c) (elements_in c))
    ∙ first_half _ _ (sym (list_all-append (is_number_of (kind_of c)) (numbers_of (elements_in c))
    (option_to_list half)) ∙ h.of_type)

-- how many numbers elements have
count_singles : {A : Type 0} (f : A → ℤ) (xs : List A) →
    length (numbers_of (singles f xs)) ≡ 1 * length (singles f xs)
count_singles {A = A} f xs =
    omega (arith, length-numbers_of-singles f xs, length-map xs (λ (x : A). single (f x)))

count_numbers : (c : Cells) →
    length (numbers_of (elements_in c)) ≡ numbers_per_element (kind_of c) * length (elements_in c)
count_numbers (I8 v) = count_singles (λ x. x) v.items
count_numbers (I16 v) = count_singles (λ x. x) v.items
count_numbers (I32 v) = count_singles (λ x. x) v.items
count_numbers (I64 v) = count_singles (λ x. x) v.items
count_numbers (U8 v) = count_singles (λ x. pos x) v.items
count_numbers (U16 v) = count_singles (λ x. pos x) v.items
count_numbers (U32 v) = count_singles (λ x. pos x) v.items
count_numbers (U64 v) = count_singles (λ x. pos x) v.items
count_numbers (Pairs v) =
    omega (arith, length-numbers_of-pairs v.items, length-map v.items (λ (p : ℤ × ℤ). pair p.0 p.1))

-- room for a number is room for its element
numbers_left : (per n room more : ℕ) → per * n + more < per * room → n < room
numbers_left per n room more h = grind arith

pub room_left : (c : Cells) (half : Option ℤ) (b : Contents) → draft c half ≡ b →
    length b.numbers < numbers_per_element b.elem_type * b.room → length (elements_in c) < room_of c
room_left c half b e h =
    let P : Contents → Type 0 = λ d. length d.numbers < numbers_per_element d.elem_type * d.room in
    let mine : length (numbers_of (elements_in c) ++ option_to_list half) < numbers_per_element
    (kind_of c) * room_of c = subst P (sym e) h in
    let sum : numbers_per_element (kind_of c) * length (elements_in c) + length
    (option_to_list half) < numbers_per_element (kind_of c) * room_of c =
    rw (length-append (numbers_of (elements_in c)) (option_to_list half), count_numbers c) at mine
    in
    numbers_left _ _ _ _ sum

twice : (n : ℕ) → 2 * n % 2 ≡ 0
twice n = omega arith

twice_and_one : (n : ℕ) → (2 * n + 1) % 2 ≡ 1
twice_and_one n = omega arith

-- the faults of numbers that are of the type
on_even : (b : Bool) (n : ℕ) → (b ≡ true → n ≡ 0) →
    (if b && not (n == 0) then Some OddPair else None) ≡ None
on_even true n e = rw (e refl) refl
on_even false n e = refl

fault_of-even : (ty : ElemType) (ns : List ℤ) → list_all (is_number_of ty) ns ≡ true →
    (is_pair ty ≡ true → length ns % 2 ≡ 0) → fault_of ty ns ≡ None
fault_of-even ty ns h even = rw h (on_even (is_pair ty) (length ns % 2) even)

fault_of-odd : (ty : ElemType) (ns : List ℤ) → list_all (is_number_of ty) ns ≡ true →
    is_pair ty ≡ true → length ns % 2 ≡ 1 → fault_of ty ns ≡ Some OddPair
fault_of-odd ty ns h two odd = rw (h, two, odd) refl

pair_numbers : (c : Cells) → is_pair (kind_of c) ≡ true →
    length (numbers_of (elements_in c)) ≡ 2 * length (elements_in c)
pair_numbers c e = count_numbers c ∙ rw e refl

pub finished : (c : Cells) (half : Option ℤ) (b : Contents) → draft c half ≡ b → IsDraft c half →
    half ≡ None → fault_of b.elem_type b.numbers ≡ None
finished c half b e h none =
    let P : Contents → Type 0 = λ d. fault_of d.elem_type d.numbers ≡ None in
    subst P e (fault_of-even (kind_of c) _ h.of_type (λ two.
    let size = pair_numbers c two in
    rw (none, append-nil (numbers_of (elements_in c)), size) (twice (length (elements_in c)))))

is_two : (ty : Bool) (half : Option ℤ) (v : ℤ) → (ty ≡ false → half ≡ None) → half ≡ Some v →
    ty ≡ true
is_two true half v h some = refl
is_two false half v h some = let none = h refl in cc

pub unfinished : (c : Cells) (half : Option ℤ) (b : Contents) (v : ℤ) → draft c half ≡ b →
    IsDraft c half → half ≡ Some v → fault_of b.elem_type b.numbers ≡ Some OddPair
unfinished c half b v e h some =
    let P : Contents → Type 0 = λ d. fault_of d.elem_type d.numbers ≡ Some OddPair in
    let two = is_two (is_pair (kind_of c)) half v h.no_half some in
    let size = pair_numbers c two in
    subst P e (fault_of-odd (kind_of c) _ h.of_type two (rw
    (some, length-append (numbers_of (elements_in c)) (v ∷ []), size)
    (twice_and_one (length (elements_in c)))))

-- one more number of a single cell, and one more pair
pub singles_pushed : {A : Type 0} (f : A → ℤ) (xs ys : List A) (x : A) (n : ℤ) → ys ≡ xs ++ x ∷ [] →
    f x ≡ n → numbers_of (singles f ys) ≡ numbers_of (singles f xs) ++ n ∷ []
singles_pushed f xs ys x n e is =
    numbers_of-singles f ys ∙ ap (map f) e ∙ map-append f xs (x ∷ [])
    ∙ rw (is, numbers_of-singles f xs) refl

pub pair_pushed : (ps qs : List (ℤ × ℤ)) (a b : ℤ) → qs ≡ ps ++ (a, b) ∷ [] →
    numbers_of (pairs qs) ++ [] ≡ (numbers_of (pairs ps) ++ a ∷ []) ++ b ∷ []
pair_pushed ps qs a b e = append-nil _ ∙ ap (λ (rs : List (ℤ × ℤ)). numbers_of (pairs rs)) e
    ∙ numbers_of-pairs-more ps (a, b) ∙ sym (append_assoc (numbers_of (pairs ps)) (a ∷ []) (b ∷ []))
