-- What two numbers of a type combine to is a number of the type.
use Rattle.std.proofs.Common.{◌≡◌, ℕ, ◌<◌, ◌^◌, ◌%◌, ◌-◌, ◌&&◌, Bool, true, false, List, [], ◌∷◌, ℤ}
use Rattle.std.proofs.Common.{pos, negsuc, ◌+ℤ◌, ◌*ℤ◌, arith, refl, FitsSigned, cond, mod-lt}
use Rattle.std.proofs.Common.{lt_of_le_of_lt, ◌++◌, ◌∙◌, take, drop, zero, suc, slice_range}
use Rattle.std.specs.List.{list_all}
use Rattle.std.proofs.lemmas.List.Folds.{list_all-append}
use Rattle.std.specs.Int.{Width, w8, w16, w32, w64, w128, int_rem_euclid, cast_unsigned}
use Rattle.std.specs.Prelude.{int_lt, unsigned_abs, ◌*◌, if◌then◌else◌}
use Rattle.std.proofs.lemmas.Int.{SFits-int_wrap}
use Rattle.std.proofs.lemmas.Bool.Decides.{nat_tests}
use Rattle.std.proofs.lemmas.Nat.{and_le_l, or_lt, xor_lt, pow_pos}
use mir.Val.{bits, hbits}
use Rattle.std.proofs.Math.Facts.{sfits_to_z}
use Rattle.wall_labels.specs.declared.op.Op.{Op}
use Rattle.wall_labels.specs.declared.op.Op.TheVariants.{Max, Min, Sum, Prod, Land, Lor, Lxor, Band}
use Rattle.wall_labels.specs.declared.op.Op.TheVariants.{Bor, Bxor, Maxloc, Minloc}
use Rattle.mpi_elems.specs.declared.elem_type.ElemType.{ElemType}
use Rattle.mpi_elems.specs.declared.elem_type.ElemType.TheVariants.{Int8, Int16, Int32, Int64}
use Rattle.mpi_elems.specs.declared.elem_type.ElemType.TheVariants.{Uint8, Uint16, Uint32, Uint64}
use Rattle.mpi_elems.specs.declared.elem_type.ElemType.TheVariants.{TwoInt}
use Rattle.mpi_elems.specs.Numbers.{is_number_of, is_signed_of, is_unsigned_of, wrapped, bits_of}
use Rattle.mpi_elems.specs.Numbers.{of_bits}
use Rattle.mpi_elems.specs.Operations.{on_numbers, truth, keeps_first}
use Rattle.mpi_elems.specs.Elements.{Element, single, pair, is_element_of, combine}
use Rattle.mpi_elems.specs.Lists.{merged}
use Rattle.mpi_elems.specs.declared.cells.Cells.{Cells}
use Rattle.mpi_elems.specs.Shown.{kind_of, elements_in, AreFit}

test_signed8 : (z : ℤ) → FitsSigned w8 z → is_signed_of 8 z ≡ true
test_signed8 (pos n) f = let h = f.sfits in grind (arith, nat_tests)
test_signed8 (negsuc n) f = let h = f.sfits in grind (arith, nat_tests)

fits_signed8 : (z : ℤ) → is_signed_of 8 z ≡ true → FitsSigned w8 z
fits_signed8 (pos n) e = record { sfits = grind (arith, nat_tests) }
fits_signed8 (negsuc n) e = record { sfits = grind (arith, nat_tests) }

test_signed16 : (z : ℤ) → FitsSigned w16 z → is_signed_of 16 z ≡ true
test_signed16 (pos n) f = let h = f.sfits in grind (arith, nat_tests)
test_signed16 (negsuc n) f = let h = f.sfits in grind (arith, nat_tests)

fits_signed16 : (z : ℤ) → is_signed_of 16 z ≡ true → FitsSigned w16 z
fits_signed16 (pos n) e = record { sfits = grind (arith, nat_tests) }
fits_signed16 (negsuc n) e = record { sfits = grind (arith, nat_tests) }

test_signed32 : (z : ℤ) → FitsSigned w32 z → is_signed_of 32 z ≡ true
test_signed32 (pos n) f = let h = f.sfits in grind (arith, nat_tests)
test_signed32 (negsuc n) f = let h = f.sfits in grind (arith, nat_tests)

fits_signed32 : (z : ℤ) → is_signed_of 32 z ≡ true → FitsSigned w32 z
fits_signed32 (pos n) e = record { sfits = grind (arith, nat_tests) }
fits_signed32 (negsuc n) e = record { sfits = grind (arith, nat_tests) }

test_signed64 : (z : ℤ) → FitsSigned w64 z → is_signed_of 64 z ≡ true
test_signed64 (pos n) f = let h = f.sfits in grind (arith, nat_tests)
test_signed64 (negsuc n) f = let h = f.sfits in grind (arith, nat_tests)

fits_signed64 : (z : ℤ) → is_signed_of 64 z ≡ true → FitsSigned w64 z
fits_signed64 (pos n) e = record { sfits = grind (arith, nat_tests) }
fits_signed64 (negsuc n) e = record { sfits = grind (arith, nat_tests) }

twice : (w : Width) → 2 ^ bits w ≡ 2 * 2 ^ hbits w
twice w8 = refl
twice w16 = refl
twice w32 = refl
twice w64 = refl
twice w128 = refl

test_unsigned : (k n : ℕ) → n < 2 ^ k → is_unsigned_of k (pos n) ≡ true
test_unsigned k n h = grind (arith, nat_tests)

rem_unsigned : (k : ℕ) (z : ℤ) → is_unsigned_of k (int_rem_euclid z (pos (2 ^ k))) ≡ true
rem_unsigned k (pos n) = test_unsigned k _ (mod-lt n (pow_pos k))
rem_unsigned k (negsuc n) = let h = pow_pos k in
    let below : 2 ^ k - 1 - n % 2 ^ k < 2 ^ k = omega arith in test_unsigned k _ below

wrapped_fits : (ty : ElemType) (z : ℤ) → is_number_of ty (wrapped ty z) ≡ true
unfolding is_number_of
wrapped_fits Int8 z = test_signed8 _ (SFits-int_wrap w8 z)
wrapped_fits Int16 z = test_signed16 _ (SFits-int_wrap w16 z)
wrapped_fits Int32 z = test_signed32 _ (SFits-int_wrap w32 z)
wrapped_fits Int64 z = test_signed64 _ (SFits-int_wrap w64 z)
wrapped_fits Uint8 z = rem_unsigned 8 z
wrapped_fits Uint16 z = rem_unsigned 16 z
wrapped_fits Uint32 z = rem_unsigned 32 z
wrapped_fits Uint64 z = rem_unsigned 64 z
wrapped_fits TwoInt z = test_signed32 _ (SFits-int_wrap w32 z)

truth_fits : (ty : ElemType) (b : Bool) → is_number_of ty (truth b) ≡ true
unfolding is_number_of
truth_fits Int8 true = refl
truth_fits Int8 false = refl
truth_fits Int16 true = refl
truth_fits Int16 false = refl
truth_fits Int32 true = refl
truth_fits Int32 false = refl
truth_fits Int64 true = refl
truth_fits Int64 false = refl
truth_fits Uint8 true = refl
truth_fits Uint8 false = refl
truth_fits Uint16 true = refl
truth_fits Uint16 false = refl
truth_fits Uint32 true = refl
truth_fits Uint32 false = refl
truth_fits Uint64 true = refl
truth_fits Uint64 false = refl
truth_fits TwoInt true = refl
truth_fits TwoInt false = refl

-- how many bits a number of the type has
abbrev pub width_of : ElemType → ℕ
width_of Int8 = 8
width_of Int16 = 16
width_of Int32 = 32
width_of Int64 = 64
width_of Uint8 = 8
width_of Uint16 = 16
width_of Uint32 = 32
width_of Uint64 = 64
width_of TwoInt = 32

signed_bits : (w : Width) (z : ℤ) → FitsSigned w z → cast_unsigned w z < 2 ^ bits w
signed_bits w (pos n) f = let h = f.sfits in let e = twice w in omega arith
signed_bits w (negsuc n) f = let h = f.sfits in let e = twice w in omega arith

unsigned_bits : (k : ℕ) (z : ℤ) → is_unsigned_of k z ≡ true → unsigned_abs z < 2 ^ k
unsigned_bits k (pos n) e = grind (arith, nat_tests)
unsigned_bits k (negsuc n) e = cc

bits_below : (ty : ElemType) (z : ℤ) → is_number_of ty z ≡ true → bits_of ty z < 2 ^ width_of ty
unfolding is_number_of
bits_below Int8 z e = signed_bits w8 z (fits_signed8 z e)
bits_below Int16 z e = signed_bits w16 z (fits_signed16 z e)
bits_below Int32 z e = signed_bits w32 z (fits_signed32 z e)
bits_below Int64 z e = signed_bits w64 z (fits_signed64 z e)
bits_below Uint8 z e = unsigned_bits 8 z e
bits_below Uint16 z e = unsigned_bits 16 z e
bits_below Uint32 z e = unsigned_bits 32 z e
bits_below Uint64 z e = unsigned_bits 64 z e
bits_below TwoInt z e = signed_bits w32 z (fits_signed32 z e)

of_bits_fits : (ty : ElemType) (n : ℕ) → n < 2 ^ width_of ty → is_number_of ty (of_bits ty n) ≡ true
unfolding is_number_of
of_bits_fits Int8 n h = test_signed8 _ (sfits_to_z (record { fits = h }))
of_bits_fits Int16 n h = test_signed16 _ (sfits_to_z (record { fits = h }))
of_bits_fits Int32 n h = test_signed32 _ (sfits_to_z (record { fits = h }))
of_bits_fits Int64 n h = test_signed64 _ (sfits_to_z (record { fits = h }))
of_bits_fits Uint8 n h = test_unsigned 8 n h
of_bits_fits Uint16 n h = test_unsigned 16 n h
of_bits_fits Uint32 n h = test_unsigned 32 n h
of_bits_fits Uint64 n h = test_unsigned 64 n h
of_bits_fits TwoInt n h = test_signed32 _ (sfits_to_z (record { fits = h }))

one_of_two : (p : ℤ → Bool) (c : Bool) (a b : ℤ) → p a ≡ true → p b ≡ true → p (cond c a b) ≡ true
one_of_two p true a b h k = h
one_of_two p false a b h k = k

pub on_numbers_fits : (op : Op) (ty : ElemType) (a b : ℤ) → is_number_of ty a ≡ true →
    is_number_of ty b ≡ true → is_number_of ty (on_numbers op ty a b) ≡ true
on_numbers_fits Max ty a b h k = one_of_two (is_number_of ty) (int_lt b a) a b h k
on_numbers_fits Min ty a b h k = one_of_two (is_number_of ty) (int_lt b a) b a k h
on_numbers_fits Sum ty a b h k = wrapped_fits ty (a +ℤ b)
on_numbers_fits Prod ty a b h k = wrapped_fits ty (a *ℤ b)
on_numbers_fits Land ty a b h k = truth_fits ty _
on_numbers_fits Lor ty a b h k = truth_fits ty _
on_numbers_fits Lxor ty a b h k = truth_fits ty _
on_numbers_fits Band ty a b h k =
    of_bits_fits ty _ (lt_of_le_of_lt (and_le_l (bits_of ty a) (bits_of ty b)) (bits_below ty a h))
on_numbers_fits Bor ty a b h k = of_bits_fits ty _
    (or_lt (width_of ty) (bits_of ty a) (bits_of ty b) (bits_below ty a h) (bits_below ty b k))
on_numbers_fits Bxor ty a b h k = of_bits_fits ty _
    (xor_lt (width_of ty) (bits_of ty a) (bits_of ty b) (bits_below ty a h) (bits_below ty b k))
on_numbers_fits Maxloc ty a b h k = h
on_numbers_fits Minloc ty a b h k = h

both : (b c : Bool) → (b && c) ≡ true → (b ≡ true) × (c ≡ true)
both true c e = (refl, e)
both false c e = absurd (cc)

joined : (b c : Bool) → b ≡ true → c ≡ true → (b && c) ≡ true
joined true c e f = f
joined false c e f = e

pair_fits : (ty : ElemType) (c : Bool) (a i b j : ℤ) → is_element_of ty (pair a i) ≡ true →
    is_element_of ty (pair b j) ≡ true → is_element_of ty (if c then pair a i else pair b j) ≡ true
pair_fits ty true a i b j h k = h
pair_fits ty false a i b j h k = k

combine_fits : (op : Op) (ty : ElemType) (x y : Element) → is_element_of ty x ≡ true →
    is_element_of ty y ≡ true → is_element_of ty (combine op ty x y) ≡ true
unfolding combine
combine_fits op ty (single a) (single b) h k = on_numbers_fits op ty a b h k
combine_fits op ty (pair a i) (pair b j) h k = pair_fits ty (keeps_first op a i b j) a i b j h k
combine_fits op ty (single a) (pair b j) h k = h
combine_fits op ty (pair a i) (single b) h k = h

-- lists of elements of a type, merged
pub merged_fit : (op : Op) (ty : ElemType) (xs ys : List Element) →
    list_all (is_element_of ty) xs ≡ true → list_all (is_element_of ty) ys ≡ true →
    list_all (is_element_of ty) (merged (combine op ty) xs ys) ≡ true
unfolding merged
merged_fit op ty [] ys h k = k
merged_fit op ty (x ∷ xs) [] h k = h
merged_fit op ty (x ∷ xs) (y ∷ ys) h k =
    let first = both _ _ h in
    let second = both _ _ k in
    joined _ _ (combine_fits op ty x y first.0 second.0) (merged_fit op ty xs ys first.1 second.1)

-- a part of a list of elements of a type
take_fit : (p : Element → Bool) (n : ℕ) (xs : List Element) → list_all p xs ≡ true →
    list_all p (take n xs) ≡ true
take_fit p zero xs h = refl
take_fit p (suc n) [] h = refl
take_fit p (suc n) (x ∷ xs) h =
    let first = both _ _ h in joined _ _ first.0 (take_fit p n xs first.1)

drop_fit : (p : Element → Bool) (n : ℕ) (xs : List Element) → list_all p xs ≡ true →
    list_all p (drop n xs) ≡ true
drop_fit p zero xs h = h
drop_fit p (suc n) [] h = refl
drop_fit p (suc n) (x ∷ xs) h = drop_fit p n xs (both _ _ h).1

pub slice_range_fit : (p : Element → Bool) (xs : List Element) (i j : ℕ) → list_all p xs ≡ true →
    list_all p (slice_range xs i j) ≡ true
slice_range_fit p xs i j h = take_fit p _ _ (drop_fit p i xs h)

pub append_fit : (p : Element → Bool) (xs ys : List Element) → list_all p xs ≡ true →
    list_all p ys ≡ true → list_all p (xs ++ ys) ≡ true
append_fit p xs ys h k = list_all-append p xs ys ∙ joined _ _ h k

-- cells that got a part of others are fit
pub appended_fit : (old other new : Cells) (i j : ℕ) → kind_of old ≡ kind_of other →
    kind_of new ≡ kind_of old →
    elements_in new ≡ elements_in old ++ slice_range (elements_in other) i j → AreFit old →
    AreFit other → AreFit new
appended_fit old other new i j types kind same h k =
    let p : Element → Bool = is_element_of (kind_of old) in
    let second : list_all p (elements_in other) ≡ true = rw types k in
    rw (kind, same)
    (append_fit p (elements_in old) _ h (slice_range_fit p (elements_in other) i j second))

pub merged_cells_fit : (op : Op) (old other new : Cells) (i j : ℕ) → kind_of old ≡ kind_of other →
    kind_of new ≡ kind_of old →
    elements_in new
    ≡ merged (combine op (kind_of old)) (elements_in old) (slice_range (elements_in other) i j)
    → AreFit old → AreFit other → AreFit new
merged_cells_fit op old other new i j types kind same h k =
    let p : Element → Bool = is_element_of (kind_of old) in
    let second : list_all p (elements_in other) ≡ true = rw types k in
    rw (kind, same) (merged_fit op (kind_of old) (elements_in old) _ h
    (slice_range_fit p (elements_in other) i j second))
