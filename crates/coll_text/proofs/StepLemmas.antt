-- Digits that are read eight at a time.
use Rattle.std.proofs.Common.{◌≡◌, ℕ, zero, suc, ◌+◌, ◌-◌, ◌*◌, ◌/◌, ◌%◌, ◌^◌, ◌<◌, ◌≤◌, Bool, true}
use Rattle.std.proofs.Common.{false, not, ltb, eqb, cond, List, [], ◌∷◌, ◌++◌, length, get_or, take}
use Rattle.std.proofs.Common.{drop, map, replicate, take-add, length-drop, sym, ap, ◌∙◌, refl}
use Rattle.std.proofs.Common.{subst, arith, Fits, w8}
use Rattle.std.specs.List.{list_all, prefix_len}
use Rattle.std.specs.Int.Digits.{AllBelowBase, number_from_digits, number_from_digits_after}
use Rattle.std.specs.Simd.Lanes.{number_l, digits_l, mask_l, top, zip2}
use Rattle.std.proofs.lemmas.Bool.{and_parts, and_from, le-leb, agree_below_at, ltb-false, eqb-true}
use Rattle.std.proofs.lemmas.List.{length-take-le, take-map, length-map, take-take}
use Rattle.std.proofs.lemmas.List.Folds.{list_all-append}
use Rattle.std.proofs.lemmas.Simd.{tops_compared, zip2_splat_left, mask_l-mod, leading_from_mask_l}
use Rattle.std.proofs.lemmas.Simd.{trailing_mask_l}
use Rattle.std.proofs.lemmas.Nat.{pow-add, mul-mod}
use Rattle.std.proofs.lemmas.Int.Digits.{number_lt}
use Rattle.std.proofs.lemmas.List.Sums.{prefix_len-le-length}
use lib.Count.{count_trailing_zeros}
use Rattle.std.proofs.Math.Arith.{digits_lt}
use Rattle.std.proofs.Math.Nat.{mul_assoc, pow-succ', pow-le-pow_right, mod-eq_of_lt}
use Rattle.std.proofs.Math.Nat.{mul-lt-mul_of_pos_right, add-mul-mod_self_right}
use Rattle.coll_text.specs.Numbers.{Word, is_digit, value_after}
use Rattle.coll_text.specs.Eights.{less_zero, IsFrontValue}
use Rattle.coll_text.proofs.FrontLemmas.{value_after-append, digit_range}

-- a value before digits counts for each of them tenfold
value_behind : (n m : ℕ) (w : Word) → value_after (n + m) w ≡ value_after n w + m * 10 ^ length w
value_behind n m [] = omega arith
value_behind n m (b ∷ bs) =
    let next : (n + m) * 10 + (b - 48) ≡ (n * 10 + (b - 48)) + m * 10 = omega arith in
    let tenfold : m * 10 * 10 ^ length bs ≡ m * 10 ^ suc (length bs) = mul_assoc m 10
    (10 ^ length bs) ∙ ap (λ k. m * k) (sym (pow-succ' 10 (length bs))) in
    ap (λ k. value_after k bs) next ∙ value_behind (n * 10 + (b - 48)) (m * 10) bs
    ∙ ap (λ k. value_after (n * 10 + (b - 48)) bs + k) tenfold

small_on : (i n v e : ℕ) → v < 10 ^ i → e < 10 ^ n → v * 10 ^ n + e < 10 ^ (i + n)
small_on i n v e lt le =
    let d : v * 10 ^ n + e < 10 ^ i * 10 ^ n = digits_lt lt le in omega (arith, d, pow-add 10 i n)

module _ (w : Word) (i n v e : ℕ) (near : i + n ≤ length w) where
  step_size : length (take n (drop i w)) ≡ n
  step_size = let size : length (drop i w) ≡ length w - i = length-drop i w in
      length-take-le n (drop i w) (omega (arith, size))

  value_on : v ≡ value_after 0 (take i w) → e ≡ value_after 0 (take n (drop i w)) →
      v * 10 ^ n + e ≡ value_after 0 (take (i + n) w)
  value_on h k =
      let zero_plus : v ≡ 0 + v = omega arith in
      let b = ap (λ m. value_after m (take n (drop i w))) zero_plus ∙ value_behind 0 v
      (take n (drop i w)) in
      let p : v * 10 ^ length (take n (drop i w)) ≡ v * 10 ^ n = ap (λ m. v * 10 ^ m) step_size in
      let sum : v * 10 ^ n + e ≡ value_after v (take n (drop i w)) = omega (arith, b, p, k) in
      sum ∙ ap (λ m. value_after m (take n (drop i w))) h
      ∙ sym (value_after-append 0 (take i w) (take n (drop i w)))
      ∙ ap (value_after 0) (sym (take-add i n w))

  digits_on : list_all is_digit (take i w) ≡ true →
      list_all is_digit (take n (drop i w)) ≡ true → list_all is_digit (take (i + n) w) ≡ true
  digits_on h k =
      ap (list_all is_digit) (take-add i n w)
      ∙ list_all-append is_digit (take i w) (take n (drop i w))
      ∙ and_from (list_all is_digit (take i w)) (list_all is_digit (take n (drop i w))) h k

  pub prefix_more : IsFrontValue w v i → list_all is_digit (take n (drop i w)) ≡ true →
      e ≡ value_after 0 (take n (drop i w)) → e < 10 ^ n → IsFrontValue w (e + v * 10 ^ n) (i + n)
  prefix_more f d k lt = record {
    within = near;
    digits = digits_on f.digits d;
    value = omega (arith, value_on f.value k);
    small = omega (arith, small_on i n v e f.small lt);
  }

prefix_fits : (v i : ℕ) → v < 10 ^ i → i ≤ 19 → v < 2 ^ 64
prefix_fits v i lt le =
    let e : 10 ^ i ≤ 10 ^ 19 = pow-le-pow_right (omega arith) le in omega (arith, e)

module _ (i c : ℕ) (w : Word) (le : i ≤ c) (digits : list_all is_digit (take c w) ≡ true) where
  digits_parts : (list_all is_digit (take i w) ≡ true)
      × (list_all is_digit (take (c - i) (drop i w)) ≡ true)
  digits_parts =
      let all : c ≡ i + (c - i) = omega arith in
      let e = ap (λ n. take n w) all ∙ take-add i (c - i) w in
      and_parts (list_all is_digit (take i w)) (list_all is_digit (take (c - i) (drop i w)))
      (sym (list_all-append is_digit (take i w) (take (c - i) (drop i w)))
      ∙ sym (ap (list_all is_digit) e) ∙ digits)

  pub digits_before : list_all is_digit (take i w) ≡ true
  digits_before = digits_parts.0

  pub digits_behind : list_all is_digit (take (c - i) (drop i w)) ≡ true
  digits_behind = digits_parts.1

-- ---- bytes less the digit 0
less_prefix : (c n : ℕ) (w : Word) → c ≤ n →
    take c (map less_zero (take n w)) ≡ map less_zero (take c w)
less_prefix c n w le =
    take-map less_zero c (take n w) ∙ ap (map less_zero) (take-take c n w le)

digit_low : (b : ℕ) → b < 256 → less_zero b < 10 → is_digit b ≡ true
digit_low b fits lt =
    let low : 48 ≤ b = omega arith in let high : b ≤ 57 = omega arith in
    rw (le-leb 48 b low, le-leb b 57 high) refl

digits_low : (n : ℕ) (w : Word) → ((k : ℕ) → Fits w8 (get_or w k 0)) →
    AllBelowBase 10 (map less_zero (take n w)) → list_all is_digit (take n w) ≡ true
digits_low zero w fits h = refl
digits_low (suc n) [] fits h = refl
digits_low (suc n) (b ∷ bs) fits h = and_from (is_digit b) (list_all is_digit (take n bs))
    (digit_low b (fits 0).fits h.0) (digits_low n bs (λ k. fits (suc k)) h.1)

low_digits : (ys : Word) → list_all is_digit ys ≡ true → AllBelowBase 10 (map less_zero ys)
low_digits [] h = tt
low_digits (b ∷ bs) h =
    let p = and_parts (is_digit b) (list_all is_digit bs) h in
    let r = digit_range b p.0 in
    (omega (arith, r.0, r.1), low_digits bs p.1)

value_low : (n : ℕ) (ys : Word) → list_all is_digit ys ≡ true →
    number_from_digits_after 10 n (map less_zero ys) ≡ value_after n ys
value_low n [] h = refl
value_low n (b ∷ bs) h =
    let p = and_parts (is_digit b) (list_all is_digit bs) h in
    let r = digit_range b p.0 in
    let e : n * 10 + less_zero b ≡ n * 10 + (b - 48) = omega (arith, r.0, r.1) in
    ap (λ m. number_from_digits_after 10 m (map less_zero bs)) e
    ∙ value_low (n * 10 + (b - 48)) bs p.1

-- ---- the first that is no digit
abbrev pub marks_of : ℕ → List ℕ → ℕ
marks_of n ys = mask_l
    (map (top 7) (zip2 (λ a b. cond (ltb a b) 255 0) (replicate n 9) ys)) % 2 ^ 64

marks_are : (n : ℕ) (ys : List ℕ) → length ys ≡ n → n ≤ 64 →
    marks_of n ys ≡ mask_l (map (ltb 9) ys)
marks_are n ys size le =
    let long : length (map (ltb 9) ys) ≤ 64 = omega (arith, length-map ys (ltb 9), size) in
    ap (λ m. mask_l m % 2 ^ 64) (tops_compared w8 ltb (replicate n 9) ys
    ∙ zip2_splat_left ltb 9 n ys size) ∙ mask_l-mod (map (ltb 9) ys) 64 long

prefix_step : (s : Bool) (y : ℕ) (ys : List ℕ) → ltb 9 y ≡ s →
    AllBelowBase 10 (take (prefix_len (λ x. not (ltb 9 x)) ys) ys) →
    AllBelowBase 10 (take (cond (not s) (1 + prefix_len (λ x. not (ltb 9 x)) ys) 0) (y ∷ ys))
prefix_step true y ys e h = tt
prefix_step false y ys e h =
    let le : y ≤ 9 = ltb-false 9 y e in
    let next : 1 + prefix_len (λ x. not (ltb 9 x)) ys ≡ suc (prefix_len (λ x. not (ltb 9 x)) ys)
    = omega arith in
    rw next (omega arith, h)

low_front : (ys : List ℕ) → AllBelowBase 10 (take (prefix_len (λ x. not (ltb 9 x)) ys) ys)
low_front [] = tt
low_front (y ∷ ys) = prefix_step (ltb 9 y) y ys refl (low_front ys)

module _ (n : ℕ) (w : Word) (long : n ≤ length w) (lanes : n ≤ 64)
    (fits : (k : ℕ) → Fits w8 (get_or w k 0)) where
  abbrev less : List ℕ
  less = map less_zero (take n w)

  size : length less ≡ n
  size = length-map (take n w) less_zero ∙ length-take-le n w long

  before_stop : (c : ℕ) → c ≡ prefix_len (λ x. not (ltb 9 x)) less →
      (c ≤ n) × (list_all is_digit (take c w) ≡ true)
  before_stop c e =
      let le : c ≤ n = omega (arith, e, size, prefix_len-le-length (λ x. not (ltb 9 x)) less) in
      let low : AllBelowBase 10 (take c less) = subst (λ k. AllBelowBase 10 (take k less)) (sym e)
      (low_front less) in
      (le, digits_low c w fits (subst (AllBelowBase 10) (less_prefix c n w le) low))

  pub none_stops : marks_of n less ≡ 0 → list_all is_digit (take n w) ≡ true
  none_stops none =
      let e = leading_from_mask_l (ltb 9) less (sym (marks_are n less size lanes) ∙ none) in
      (before_stop n (sym (e ∙ size))).1

  pub one_stops : (marks_of n less ≡ 0 → ⊥) →
      (count_trailing_zeros 64 (marks_of n less) ≤ n)
      × (list_all is_digit (take (count_trailing_zeros 64 (marks_of n less)) w) ≡ true)
  one_stops some =
      let m = marks_are n less size lanes in
      let e = trailing_mask_l (ltb 9) 64 less (omega (arith, size)) (omega (arith, m, some)) in
      before_stop (count_trailing_zeros 64 (marks_of n less)) (ap (count_trailing_zeros 64) m ∙ e)

-- ---- a word, and its first bytes moved to its end
word_parts : (c : ℕ) (xs : List ℕ) →
    number_l 256 xs ≡ number_l 256 (take c xs) + 256 ^ c * number_l 256 (drop c xs)
word_parts zero xs = omega arith
word_parts (suc c) [] = omega arith
word_parts (suc c) (x ∷ xs) =
    let more : 256 ^ suc c * number_l 256 (drop c xs) ≡ 256 * (256 ^ c * number_l 256 (drop c xs))
    = ap (λ k. k * number_l 256 (drop c xs)) (pow-succ' 256 c)
    ∙ mul_assoc 256 (256 ^ c) (number_l 256 (drop c xs)) in
    omega (arith, word_parts c xs, more)

word_below : (xs : List ℕ) → AllBelowBase 10 xs → number_l 256 xs < 256 ^ length xs
word_below [] h = omega arith
word_below (x ∷ xs) h = omega (arith, h.0, word_below xs h.1, pow-succ' 256 (length xs))

moved : (x low high p q m whole : ℕ) → x ≡ low + p * high → low < p → p * q ≡ whole → 0 < q →
    m % whole ≡ q % whole → x * m % whole ≡ low * q
moved x low high p q m whole e lt product some same =
    let other : x * m % whole ≡ x * q % whole = mul-mod x m whole
    ∙ ap (λ k. (x % whole * k) % whole) same ∙ sym (mul-mod x q whole) in
    let parts : x * q ≡ low * q + high * whole = ap (λ k. k * q) e
    ∙ omega (arith, ap (λ k. high * k) product) in
    let less : low * q < p * q = mul-lt-mul_of_pos_right lt some in
    let below : low * q < whole = omega (arith, less, product) in
    other ∙ ap (λ k. k % whole) parts ∙ add-mul-mod_self_right (low * q) high whole
    ∙ mod-eq_of_lt below

bytes_behind : (j c y : ℕ) →
    digits_l 256 (j + c) (y * 256 ^ j) ≡ replicate j 0 ++ digits_l 256 c y
bytes_behind zero c y =
    let e : y * 256 ^ 0 ≡ y = omega arith in
    let none : 0 + c ≡ c = omega arith in
    ap (λ k. digits_l 256 k (y * 256 ^ 0)) none ∙ ap (digits_l 256 c) e
bytes_behind (suc j) c y =
    let e : y * 256 ^ suc j ≡ y * 256 ^ j * 256 = omega
    (arith, ap (λ k. y * k) (pow-succ' 256 j)) in
    let none : y * 256 ^ suc j % 256 ≡ 0 = omega (arith, e) in
    let rest : y * 256 ^ suc j / 256 ≡ y * 256 ^ j = omega (arith, e) in
    let next : suc j + c ≡ suc (j + c) = omega arith in
    ap (λ k. digits_l 256 k (y * 256 ^ suc j)) next
    ∙ ap (λ b. b ∷ digits_l 256 (j + c) (y * 256 ^ suc j / 256)) none
    ∙ ap (λ k. 0 ∷ digits_l 256 (j + c) k) rest ∙ ap (λ r. 0 ∷ r) (bytes_behind j c y)

bytes_of : (xs : List ℕ) → AllBelowBase 10 xs → digits_l 256 (length xs) (number_l 256 xs) ≡ xs
bytes_of [] h = refl
bytes_of (x ∷ xs) h =
    let small : x < 10 = h.0 in
    let first : (x + 256 * number_l 256 xs) % 256 ≡ x = omega arith in
    let rest : (x + 256 * number_l 256 xs) / 256 ≡ number_l 256 xs = omega arith in
    ap (λ b. b ∷ digits_l 256 (length xs) ((x + 256 * number_l 256 xs) / 256)) first
    ∙ ap (λ k. x ∷ digits_l 256 (length xs) k) rest ∙ ap (λ r. x ∷ r) (bytes_of xs h.1)

zeros_low : (j : ℕ) (xs : List ℕ) → AllBelowBase 10 xs → AllBelowBase 10 (replicate j 0 ++ xs)
zeros_low zero xs h = h
zeros_low (suc j) xs h = (omega arith, zeros_low j xs h)

zeros_value : (j : ℕ) (xs : List ℕ) →
    number_from_digits 10 (replicate j 0 ++ xs) ≡ number_from_digits 10 xs
zeros_value zero xs = refl
zeros_value (suc j) xs = zeros_value j xs

abbrev pub tens : List ℕ
tens = 1 ∷ 10 ∷ 100 ∷ 1000 ∷ 10000 ∷ 100000 ∷ 1000000 ∷ 10000000 ∷ 100000000 ∷ []

pub tens_is : (c : ℕ) → c ≤ 8 → get_or tens c 0 ≡ 10 ^ c
tens_is c le = eqb-true (get_or tens c 0) (10 ^ c)
    (agree_below_at (λ k. eqb (get_or tens k 0) (10 ^ k)) (λ k. true) 9 c refl (omega arith))

pub table_fits : (v i n e : ℕ) → v < 10 ^ i → e < 10 ^ n → n ≤ 8 → i + n ≤ 19 →
    e + v * get_or tens n 0 < 2 ^ 64
table_fits v i n e lt le few all =
    let t : v * get_or tens n 0 ≡ v * 10 ^ n = ap (λ k. v * k) (tens_is n few) in
    let h = prefix_fits (v * 10 ^ n + e) (i + n) (small_on i n v e lt le) all in omega (arith, h, t)

abbrev pub ups : List ℕ
ups = 0 ∷ 72057594037927936 ∷ 281474976710656 ∷ 1099511627776 ∷ 4294967296 ∷ 16777216 ∷ 65536 ∷ 256
    ∷ 1 ∷ []

ups_are : (c : ℕ) → c ≤ 8 → get_or ups c 0 % 2 ^ 64 ≡ 256 ^ (8 - c) % 2 ^ 64
ups_are c le = eqb-true (get_or ups c 0 % 2 ^ 64) (256 ^ (8 - c) % 2 ^ 64)
    (agree_below_at (λ k. eqb (get_or ups k 0 % 2 ^ 64) (256 ^ (8 - k) % 2 ^ 64)) (λ k. true) 9 c
    refl (omega arith))

module _ (w : Word) (c : ℕ) (room : 8 ≤ length w) (few : c ≤ 8)
    (digits : list_all is_digit (take c w) ≡ true) where
  abbrev pub moved_word : ℕ
  moved_word = number_l 256 (map less_zero (take 8 w)) * get_or ups c 0 % 2 ^ 64

  low : AllBelowBase 10 (map less_zero (take c w))
  low = low_digits (take c w) digits

  count : length (map less_zero (take c w)) ≡ c
  count = length-map (take c w) less_zero ∙ length-take-le c w (omega arith)

  bytes_are : digits_l 256 8 moved_word ≡ replicate (8 - c) 0 ++ map less_zero (take c w)
  bytes_are =
      let ds = map less_zero (take 8 w) in
      let n = number_l 256 (map less_zero (take c w)) in
      let parts : number_l 256 ds ≡ n + 256 ^ c * number_l 256 (drop c ds) = word_parts c ds
      ∙ ap (λ r. number_l 256 r + 256 ^ c * number_l 256 (drop c ds)) (less_prefix c 8 w few) in
      let below : n < 256 ^ c = subst (λ k. n < 256 ^ k) count
      (word_below (map less_zero (take c w)) low) in
      let all : c + (8 - c) ≡ 8 = omega arith in
      let whole : 256 ^ c * 256 ^ (8 - c) ≡ 2 ^ 64 = sym (pow-add 256 c (8 - c))
      ∙ ap (λ k. 256 ^ k) all in
      let some : 256 ^ 0 ≤ 256 ^ (8 - c) = pow-le-pow_right {n = 256} (omega arith)
      {i = 0} {j = 8 - c} (omega arith) in
      let at : moved_word ≡ n * 256 ^ (8 - c) = moved (number_l 256 ds) n (number_l 256 (drop c ds))
      (256 ^ c) (256 ^ (8 - c)) (get_or ups c 0) (2 ^ 64) parts below whole (omega (arith, some))
      (ups_are c few) in
      let eight : 8 ≡ (8 - c) + c = omega arith in
      ap (digits_l 256 8) at ∙ ap (λ k. digits_l 256 k (n * 256 ^ (8 - c))) eight
      ∙ bytes_behind (8 - c) c n ∙ ap (λ k. replicate (8 - c) 0 ++ digits_l 256 k n) (sym count)
      ∙ ap (λ r. replicate (8 - c) 0 ++ r) (bytes_of (map less_zero (take c w)) low)

  pub few_low : AllBelowBase 10 (digits_l 256 8 moved_word)
  few_low = subst (AllBelowBase 10) (sym bytes_are)
      (zeros_low (8 - c) (map less_zero (take c w)) low)

  few_number : number_from_digits 10 (digits_l 256 8 moved_word)
      ≡ number_from_digits 10 (map less_zero (take c w))
  few_number = ap (number_from_digits 10) bytes_are
      ∙ zeros_value (8 - c) (map less_zero (take c w))

  pub few_value : number_from_digits 10 (digits_l 256 8 moved_word) ≡ value_after 0 (take c w)
  few_value = few_number ∙ value_low 0 (take c w) digits

  pub few_small : number_from_digits 10 (digits_l 256 8 moved_word) < 10 ^ c
  few_small =
      let h = number_lt 10 (map less_zero (take c w)) low in
      let e : 10 ^ length (map less_zero (take c w)) ≡ 10 ^ c = ap (λ k. 10 ^ k) count in
      omega (arith, h, e, few_number)
