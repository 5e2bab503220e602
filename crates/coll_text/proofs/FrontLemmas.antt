-- The number at the front of a text.
use Rattle.std.proofs.Common.{◌≡◌, ℕ, zero, suc, ◌+◌, ◌-◌, ◌*◌, ◌^◌, ◌<◌, ◌≤◌, true, ◌&&◌, leb, ltb}
use Rattle.std.proofs.Common.{[], ◌∷◌, ◌++◌, length, get_or, add-one, ◌-ℤ◌}
use Rattle.std.proofs.Common.{rules, take, drop, Some, None, option_map, option_and_then, ℤ, pos}
use Rattle.std.proofs.Common.{negsuc, refl, sym, ap, ◌∙◌, arith, eqb, false, List, Ok, Err}
use Rattle.std.proofs.Common.{Bool, cond}
use mir.Val.{bool_byte}
use Rattle.std.specs.List.{list_all}
use Rattle.std.proofs.lemmas.Bool.{leb-true, le-leb, and_parts, and_from, lt-ltb, lt-leb, ne_eqb}
use Rattle.std.proofs.lemmas.Bool.{eqb-true, eqb-false}
use Rattle.std.proofs.lemmas.List.{take_more, get_or-take, length-take-le, take_all}
use Rattle.std.proofs.lemmas.List.Folds.{list_all_more}
use Rattle.std.proofs.lemmas.Nat.{pow-add}
use Rattle.std.proofs.Math.Nat.{pow-le-pow_right}
use Rattle.coll_text.proofs.NumberLemmas.{form_of, plain, behind_minus, chosen}
use Rattle.coll_text.specs.Numbers.{Word, is_digit, is_number, value_after, number_within, negative}
use Rattle.coll_text.specs.Numbers.{signed_within}
use Rattle.coll_text.specs.Reading.{number_at}
use Rattle.coll_text.specs.Fields.{number_of}
use Rattle.coll_text.specs.declared.fault.LineFault.TheVariants.{BadField}

pub value_after-append : (n : ℕ) (xs ys : Word) →
    value_after n (xs ++ ys) ≡ value_after (value_after n xs) ys
value_after-append n [] ys = refl
value_after-append n (x ∷ xs) ys = value_after-append (n * 10 + (x - 48)) xs ys

pub value_more : (w : Word) (i : ℕ) → i < length w →
    value_after 0 (take (i + 1) w) ≡ value_after 0 (take i w) * 10 + (get_or w i 0 - 48)
value_more w i lt =
    ap (value_after 0) (take_more w i 0 lt) ∙ value_after-append 0 (take i w) (get_or w i 0 ∷ [])

pub digits_more : (w : Word) (i : ℕ) → i < length w → is_digit (get_or w i 0) ≡ true →
    list_all is_digit (take i w) ≡ true → list_all is_digit (take (i + 1) w) ≡ true
digits_more w i lt d h = list_all_more is_digit w i 0 lt ∙ rw (h, d) refl

pub digit_range : (b : ℕ) → is_digit b ≡ true → (48 ≤ b) × (b ≤ 57)
digit_range b d =
    let p = and_parts (leb 48 b) (leb b 57) d in (leb-true 48 b p.0, leb-true b 57 p.1)

pub fits_more : (v i d : ℕ) → v < 10 ^ i → d ≤ 9 → v * 10 + d < 10 ^ (i + 1)
fits_more v i d lt le = let e : 10 ^ (i + 1) ≡ 10 ^ i * 10 = pow-add 10 i 1 in omega (arith, e)

-- 18 digits, and one more
pub fits : (v i d : ℕ) → v < 10 ^ i → i ≤ 18 → d ≤ 9 → v * 10 + d < 2 ^ 64
fits v i d lt le small =
    let e : 10 ^ i ≤ 10 ^ 18 = pow-le-pow_right (omega arith) le in omega (arith, e)

first_taken : (w : Word) (i : ℕ) → 0 < i → get_or (take i w) 0 0 ≡ get_or w 0 0
first_taken w i lt = get_or-take i w 0 0 lt

-- digits at the front are a number
pub front_is : (w : Word) (i v most : ℕ) → i ≤ length w → list_all is_digit (take i w) ≡ true →
    v ≡ value_after 0 (take i w) → v ≤ most → 0 < i → (get_or w 0 0 ≡ 48 → i ≤ 1) →
    number_within most (take i w) ≡ Some v
unfolding number_within
front_is w i v most le d e small some lead =
    let size : length (take i w) ≡ i = length-take-le i w le in
    let f : is_number (take i w) ≡ true = form_of (take i w) d (omega (arith, size))
    (λ h. let k : i ≤ 1 = lead (sym (first_taken w i some) ∙ h) in omega (arith, k, size)) in
    rw (f, ← e, le-leb v most small) refl

read_is : (most n : ℕ) (w : Word) → number_within most w ≡ Some n → is_number w ≡ true
unfolding number_within
read_is most n w e = (and_parts (is_number w) (leb (value_after 0 w) most)
    (chosen (is_number w && leb (value_after 0 w) most) (value_after 0 w) n e).0).0

pub plain_is : (most least n : ℕ) (w : Word) → number_within most w ≡ Some n →
    signed_within most least w ≡ Some (pos n)
plain_is most least n w e = plain most least w (read_is most n w e) ∙ ap (option_map pos) e

minus_cons : (most least n i : ℕ) (w : Word) → number_within least (take i w) ≡ Some (suc n) →
    signed_within most least (45 ∷ take i w) ≡ Some (negsuc n)
minus_cons most least n i w e = behind_minus most least (take i w) ∙ ap (option_and_then negative) e

taken_cons : (b i : ℕ) (w : Word) → take (i + 1) (b ∷ w) ≡ b ∷ take i w
taken_cons b i w = rw (add-one i) refl

below_zero : (n : ℕ) → negsuc n ≡ pos 0 -ℤ pos (suc n)
below_zero n = search rules

pub minus_is : (most least n i : ℕ) (w : Word) → 1 ≤ length w → get_or w 0 0 ≡ 45 →
    number_within least (take i (drop 1 w)) ≡ Some n → (n ≡ 0 → ⊥) →
    signed_within most least (take (i + 1) w) ≡ Some (pos 0 -ℤ pos n)
minus_is most least n i [] some first e h = absurd (omega arith)
minus_is most least zero i (b ∷ w) some first e h = absurd (h refl)
minus_is most least (suc n) i (b ∷ w) some first e h = ap (signed_within most least)
    (taken_cons b i w ∙ ap (λ (c : ℕ). c ∷ take i w) first) ∙ minus_cons most least n i w e
    ∙ ap (λ (z : ℤ). Some z) (below_zero n)

value_grows : (n : ℕ) (w : Word) → n ≤ value_after n w
value_grows n [] = omega arith
value_grows n (b ∷ bs) = let h = value_grows (n * 10 + (b - 48)) bs in omega (arith, h)

first_zero : (w : Word) (i : ℕ) → 0 < i → 0 < length w → list_all is_digit (take i w) ≡ true →
    value_after 0 (take i w) ≡ 0 → get_or w 0 0 ≡ 48
first_zero [] i lt some d e = absurd (omega arith)
first_zero (b ∷ bs) zero lt some d e = absurd (omega arith)
first_zero (b ∷ bs) (suc i) lt some d e =
    let grows = value_grows (0 * 10 + (b - 48)) (take i bs) in
    let range = digit_range b (and_parts (is_digit b) (list_all is_digit (take i bs)) d).0 in
    omega (arith, grows, e, range.0, range.1)

-- what begins with another digit is not 0
pub nonzero_is : (s : Bool) (i n : ℕ) (w : Word) → i ≤ length w → 0 < i →
    list_all is_digit (take i w) ≡ true → n ≡ value_after 0 (take i w) →
    (get_or w 0 0 ≡ 48 → ⊥) → (s && eqb n 0) ≡ false
nonzero_is false i n w le some d v h = refl
nonzero_is true i n w le some d v h =
    ne_eqb n 0 (λ z. h (first_zero w i some (omega arith) d (sym v ∙ z)))

-- where there is no sign, all of the text are digits
pub first_kept : (s : Bool) (k : ℕ) (w d : Word) → s ≡ false → k ≡ bool_byte s → d ≡ drop k w →
    get_or d 0 0 ≡ get_or w 0 0
first_kept s k w d none e back =
    let none_dropped : k ≡ 0 = e ∙ ap bool_byte none in
    ap (λ v. get_or v 0 0) (back ∙ ap (λ j. drop j w) none_dropped)

pub zero_read : (most : ℕ) (w : Word) → 1 ≤ length w → get_or w 0 0 ≡ 48 →
    signed_within most most (take 1 w) ≡ Some (pos 0)
unfolding signed_within number_within
zero_read most [] some e = absurd (omega arith)
zero_read most (b ∷ bs) some e = rw (e, le-leb 0 most (omega arith)) refl

digit_solid : (b : ℕ) → is_digit b ≡ true → ltb 44 b ≡ true
digit_solid b h = let far : 48 ≤ b = leb-true 48 b (and_parts (leb 48 b) (leb b 57) h).0 in
    lt-ltb 44 b (omega arith)

pub digits_solid : (w : Word) → list_all is_digit w ≡ true → list_all (ltb 44) w ≡ true
digits_solid [] h = refl
digits_solid (b ∷ bs) h =
    let p = and_parts (is_digit b) (list_all is_digit bs) h in
    and_from (ltb 44 b) (list_all (ltb 44) bs) (digit_solid b p.0) (digits_solid bs p.1)

pub minus_solid : (i : ℕ) (w : Word) → 1 ≤ length w → get_or w 0 0 ≡ 45 →
    list_all is_digit (take i (drop 1 w)) ≡ true → list_all (ltb 44) (take (i + 1) w) ≡ true
minus_solid i [] some first h = absurd (omega arith)
minus_solid i (b ∷ w) some first h =
    ap (list_all (ltb 44)) (taken_cons b i w) ∙ rw (first, digits_solid (take i w) h) refl

zero_is : (n : ℕ) → n ≡ 0 → eqb n 0 ≡ false → ⊥
zero_is n z h = eqb-false n 0 h z

-- a number behind its sign, if it has one
pub signed_is : (s : Bool) (most n i k : ℕ) (w : Word) → eqb (get_or w 0 0) 45 ≡ s →
    k ≡ bool_byte s → 1 ≤ length w → number_within most (take i (drop k w)) ≡ Some n →
    (s && eqb n 0) ≡ false →
    signed_within most most (take (i + k) w) ≡ Some (cond s (pos 0 -ℤ pos n) (pos n))
signed_is true most n i k w b e some v h =
    let first : get_or w 0 0 ≡ 45 = eqb-true (get_or w 0 0) 45 b in
    rw e (minus_is most most n i w some first (rw e at v) (λ z. zero_is n z h))
signed_is false most n i k w b e some v h =
    let zero : i + bool_byte false ≡ i = omega arith in
    rw (e, zero) (plain_is most most n (take i w) (rw e at v))

pub signed_solid : (s : Bool) (i k : ℕ) (w : Word) → eqb (get_or w 0 0) 45 ≡ s →
    k ≡ bool_byte s → 1 ≤ length w → list_all is_digit (take i (drop k w)) ≡ true →
    list_all (ltb 44) (take (i + k) w) ≡ true
signed_solid true i k w b e some d =
    rw e (minus_solid i w some (eqb-true (get_or w 0 0) 45 b) (rw e at d))
signed_solid false i k w b e some d =
    let zero : i + bool_byte false ≡ i = omega arith in
    rw (e, zero) (digits_solid (take i w) (rw e at d))

-- a number of the whole word, against a limit
whole_value : (n i limit : ℕ) (w : Word) → length w ≤ i → number_within limit (take i w) ≡ Some n →
    (is_number w ≡ true) × (value_after 0 w ≡ n)
unfolding number_within
whole_value n i limit w le e =
    let same : take i w ≡ w = take_all i w le in
    let k : number_within limit w ≡ Some n = ap (number_within limit) (sym same) ∙ e in
    let c = chosen (is_number w && leb (value_after 0 w) limit) (value_after 0 w) n k in
    ((and_parts (is_number w) (leb (value_after 0 w) limit) c.0).0, c.1)

pub whole_below : (n i limit most : ℕ) (w : Word) → length w ≤ i →
    number_within limit (take i w) ≡ Some n → n ≤ most → Some n ≡ number_within most w
unfolding number_within
whole_below n i limit most w le e small =
    let v = whole_value n i limit w le e in rw (v.0, v.1, le-leb n most small) refl

pub whole_above : (n i limit most : ℕ) (w : Word) → length w ≤ i →
    number_within limit (take i w) ≡ Some n → most < n → None ≡ number_within most w
unfolding number_within
whole_above n i limit most w le e large =
    let v = whole_value n i limit w le e in rw (v.0, v.1, lt-leb n most large) refl

-- the next word, read as a number of 64 bits, against a limit
some_digits : (limit n : ℕ) (w : Word) → number_within limit w ≡ Some n →
    eqb (length w) 0 ≡ false
unfolding number_within
some_digits limit n [] e = absurd cc
some_digits limit n (b ∷ bs) e =
    let other : length (b ∷ bs) ≡ 0 → ⊥ = λ h. absurd (omega arith) in
    ne_eqb (length (b ∷ bs)) 0 other

of_all : (limit n : ℕ) (w : Word) → number_within limit w ≡ Some n →
    number_within limit (take (length w) w) ≡ Some n
of_all limit n w e = ap (number_within limit) (take_all (length w) w (omega arith)) ∙ e

pub read_below : (limit most n : ℕ) (w : Word) (ws vs : List Word) → vs ≡ w ∷ ws →
    number_within limit w ≡ Some n → n ≤ most → number_at most vs ≡ Ok (n, ws)
read_below limit most n w ws vs prefix e le =
    let v : Some n ≡ number_within most w = whole_below n (length w) limit most w (omega arith)
    (of_all limit n w e) le in
    rw (prefix, some_digits limit n w e, ← v) refl

pub read_above : (limit most n : ℕ) (w : Word) (ws vs : List Word) → vs ≡ w ∷ ws →
    number_within limit w ≡ Some n → most < n → number_at most vs ≡ Err BadField
read_above limit most n w ws vs prefix e lt =
    let v : None ≡ number_within most w = whole_above n (length w) limit most w (omega arith)
    (of_all limit n w e) lt in
    rw (prefix, some_digits limit n w e, ← v) refl

-- a part of a list, likewise
pub listed_below : (limit n : ℕ) (w : Word) → number_within limit w ≡ Some n → n ≤ 4294967295 →
    number_of w ≡ Ok n
listed_below limit n w e le =
    let v : Some n ≡ number_within 4294967295 w = whole_below n (length w) limit 4294967295 w
    (omega arith) (of_all limit n w e) le in
    rw (← v) refl

pub listed_above : (limit n : ℕ) (w : Word) → number_within limit w ≡ Some n → 4294967295 < n →
    number_of w ≡ Err BadField
listed_above limit n w e lt =
    let v : None ≡ number_within 4294967295 w = whole_above n (length w) limit 4294967295 w
    (omega arith) (of_all limit n w e) lt in
    rw (← v) refl
