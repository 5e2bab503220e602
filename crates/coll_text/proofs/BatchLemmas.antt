-- Numbers that are written from the last to the first.
use Rattle.std.proofs.Common.{◌≡◌, ℕ, ◌+◌, ◌/◌, ◌%◌, ◌^◌, ◌<◌, ◌≤◌, true, false, ◌&&◌, ℤ, pos}
use Rattle.std.proofs.Common.{negsuc, List, [], set}
use Rattle.std.proofs.Common.{◌∷◌, ◌++◌, length, get_or, take, drop, slice_get, Some, refl, sym, ap}
use Rattle.std.proofs.Common.{◌∙◌, append_assoc, arith}
use Rattle.std.specs.Prelude.{int_le, int_lt, unsigned_abs}
use Rattle.std.specs.Fmt.{decimal, signed_decimal}
use Rattle.std.proofs.lemmas.Bool.{and_parts, leb-true, ltb-true}
use Rattle.std.proofs.lemmas.Fmt.{length-decimal-le, decimal_digit, decimal_step}
use Rattle.std.proofs.lemmas.Grind.{flat_map-append}
use Rattle.std.proofs.lemmas.List.{drop_more, get_or-take, length-take-le, take-append-drop}
use Rattle.std.proofs.lemmas.List.{drop-append-le, drop-set}
use Rattle.std.proofs.lemmas.Option.{get_or_from_slice_get}
use Rattle.mpi_elems.specs.declared.elem_type.ElemType.{ElemType}
use Rattle.mpi_elems.specs.declared.elem_type.ElemType.TheVariants.{Int8, Int16, Int32, Int64}
use Rattle.mpi_elems.specs.declared.elem_type.ElemType.TheVariants.{Uint8, Uint16, Uint32, Uint64}
use Rattle.mpi_elems.specs.declared.elem_type.ElemType.TheVariants.{TwoInt}
use Rattle.mpi_elems.specs.Numbers.{is_number_of}
use Rattle.coll_text.specs.Writing.{spaced_numbers, enclosed_numbers}

-- ---- each number of a type has 64 bits beside its sign

signed_small : (p m : ℕ) (z : ℤ) → p < 2 ^ 63 → m ≤ 2 ^ 63 →
    (int_le (negsuc p) z && int_lt z (pos m)) ≡ true → unsigned_abs z < 2 ^ 64
signed_small p m (pos n) low high h =
    let lt : n < m = ltb-true n m
    (and_parts (int_le (negsuc p) (pos n)) (int_lt (pos n) (pos m)) h).1 in omega arith
signed_small p m (negsuc n) low high h =
    let le : n ≤ p = leb-true n p
    (and_parts (int_le (negsuc p) (negsuc n)) (int_lt (negsuc n) (pos m)) h).0 in
    omega arith

unsigned_small : (m : ℕ) (z : ℤ) → m ≤ 2 ^ 64 → (int_le (pos 0) z && int_lt z (pos m)) ≡ true →
    unsigned_abs z < 2 ^ 64
unsigned_small m (pos n) high h =
    let lt : n < m = ltb-true n m (and_parts (int_le (pos 0) (pos n)) (int_lt (pos n) (pos m)) h).1
    in omega arith
unsigned_small m (negsuc n) high h =
    absurd (let f = (and_parts (int_le (pos 0) (negsuc n)) (int_lt (negsuc n) (pos m)) h).0 in cc)

pub number_small : (ty : ElemType) (z : ℤ) → is_number_of ty z ≡ true → unsigned_abs z < 2 ^ 64
unfolding is_number_of
number_small Int8 z h = signed_small 127 128 z (omega arith) (omega arith) h
number_small Int16 z h = signed_small 32767 32768 z (omega arith) (omega arith) h
number_small Int32 z h = signed_small 2147483647 2147483648 z (omega arith) (omega arith) h
number_small Int64 z h =
    signed_small 9223372036854775807 9223372036854775808 z (omega arith) (omega arith) h
number_small Uint8 z h = unsigned_small 256 z (omega arith) h
number_small Uint16 z h = unsigned_small 65536 z (omega arith) h
number_small Uint32 z h = unsigned_small 4294967296 z (omega arith) h
number_small Uint64 z h = unsigned_small 18446744073709551616 z (omega arith) h
number_small TwoInt z h = signed_small 2147483647 2147483648 z (omega arith) (omega arith) h

-- ---- texts

pub two_digits : (n : ℕ) → 10 ≤ n → n < 100 → decimal n ≡ decimal (n / 10) ++ decimal (n % 10)
two_digits n low high =
    decimal_step n low (omega arith)
    ∙ ap (λ (t : List ℕ). decimal (n / 10) ++ t) (sym (decimal_digit (n % 10) (omega arith)))

pub length_one : (n : ℕ) → n < 10 → length (decimal n) ≡ 1
length_one n low = ap length (decimal_digit n low)

pub length_two : (n : ℕ) → 10 ≤ n → n < 100 → length (decimal n) ≡ 2
length_two n low high =
    ap length (decimal_step n low (omega arith)
    ∙ ap (λ (t : List ℕ). t ++ (48 + n % 10) ∷ []) (decimal_digit (n / 10) (omega arith)))

pub length_small : (n : ℕ) → n < 2 ^ 64 → length (decimal n) ≤ 20
length_small n lt = length-decimal-le 20 n (omega arith) (omega arith) lt

pub minus_first : (z : ℤ) → int_le (pos 0) z ≡ false →
    45 ∷ decimal (unsigned_abs z) ≡ signed_decimal z
minus_first (pos n) e = absurd (let t : int_le (pos 0) (pos n) ≡ true = search arith in cc)
minus_first (negsuc n) e = refl

-- one number more, before the others
pub one_before : (ns : List ℤ) (to i j : ℕ) (z : ℤ) → j + 1 ≡ i → i ≤ to → to ≤ length ns →
    slice_get ns j ≡ Some z →
    32 ∷ (signed_decimal z ++ spaced_numbers (drop i (take to ns)))
    ≡ spaced_numbers (drop j (take to ns))
one_before ns to i j z next le within e =
    let near : j < length (take to ns) = let size = length-take-le to ns within in omega
    (arith, size) in
    let is : get_or (take to ns) j z ≡ z = get_or-take to ns j z (omega arith) ∙
    get_or_from_slice_get ns j z z e in
    let split : drop j (take to ns) ≡ z ∷ drop i (take to ns) = drop_more (take to ns) j z near ∙ rw
    (is, next) refl in
    sym (ap spaced_numbers split)

-- a batch more
pub batch_more : (ns : List ℤ) (i to : ℕ) (whole line new : List ℕ) → i ≤ to → to ≤ length ns →
    new ≡ line ++ spaced_numbers (drop i (take to ns)) →
    whole ≡ line ++ spaced_numbers (drop i ns) → whole ≡ new ++ spaced_numbers (drop to ns)
batch_more ns i to whole line new le within put so_far =
    let size = length-take-le to ns within in
    let parts : drop i ns ≡ drop i (take to ns) ++ drop to ns = ap (drop i)
    (sym (take-append-drop to ns)) ∙ drop-append-le i (take to ns) (drop to ns)
    (omega (arith, size)) in
    let text : spaced_numbers (drop i ns) ≡ spaced_numbers (drop i (take to ns)) ++ spaced_numbers
    (drop to ns) = ap spaced_numbers parts ∙ flat_map-append (λ (n : ℤ). 32 ∷ signed_decimal n)
    (drop i (take to ns)) (drop to ns) in
    so_far ∙ ap (λ (t : List ℕ). line ++ t) text
    ∙ sym
    (append_assoc line (spaced_numbers (drop i (take to ns))) (spaced_numbers (drop to ns)))
    ∙ sym (ap (λ (t : List ℕ). t ++ spaced_numbers (drop to ns)) put)

-- a list whose first space gives its place to another byte
pub enclosed_from : (bytes : List ℕ) (start before behind : ℕ) (ns : List ℤ) → 0 < length ns →
    start < length bytes → drop start bytes ≡ spaced_numbers ns ++ behind ∷ [] →
    drop start (set bytes start before) ≡ enclosed_numbers before ns behind
enclosed_from bytes start before behind [] some lt e = absurd (omega arith)
enclosed_from bytes start before behind (n ∷ ns) some lt e =
    let split : drop start bytes ≡ get_or bytes start 0 ∷ drop (start + 1) bytes = drop_more bytes
    start 0 lt in
    let rest : drop (start + 1) bytes ≡ signed_decimal n ++ spaced_numbers ns ++ behind ∷ [] = cc
    in
    drop-set bytes start before lt ∙ ap (λ (t : List ℕ). before ∷ t) rest
