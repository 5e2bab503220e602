-- Each number has one spelling, which is read.
use Rattle.std.proofs.Common.{◌≡◌, ℕ, zero, suc, ◌^◌, ◌<◌, ◌≤◌, Bool, true, false, not, cond, ◌&&◌}
use Rattle.std.proofs.Common.{◌||◌, eqb, leb, List, [], ◌∷◌, length, get_or, Some, None, option_map}
use Rattle.std.proofs.Common.{option_and_then, Result, Ok, Err, ℤ, pos, negsuc, map, codes, All}
use Rattle.std.proofs.Common.{refl, sym, ap, subst, ◌∙◌, arith, rules, eq-eqb}
use Rattle.std.specs.List.{list_all, join_with_byte, AllByRecursion}
use Rattle.std.specs.Fmt.{decimal, signed_decimal}
use Rattle.std.proofs.lemmas.Bool.{eqb-true, leb-true, le-leb, and_parts, and_from, ne_eqb}
use Rattle.std.proofs.lemmas.Fmt.{digits_decimal, digits_value-decimal, decimal_nonempty}
use Rattle.std.proofs.lemmas.Fmt.{first_decimal, decimal_digit, decimal-digits_value}
use Rattle.std.proofs.lemmas.Str.Parse.{IsNumeralModel, numerals_by_fold}
use Rattle.std.specs.Str.{bytes_eq}
use Rattle.std.proofs.lemmas.List.Elements.{All-nil, All-cons}
use Rattle.std.proofs.lemmas.List.Splits.{slice_split_none, slice_split_at}
use Rattle.std.proofs.lemmas.Slice.Eq.{bytes_eq-Decides}
use Rattle.coll_text.specs.declared.fault.LineFault.{LineFault}
use Rattle.coll_text.specs.Numbers.{Word, is_digit, is_number, value_after, number_within, negative}
use Rattle.coll_text.specs.Numbers.{signed_within, IsBetween}
use Rattle.coll_text.specs.Reading.{parts, each_of, list_of}
use Rattle.coll_text.specs.Spellings.{list_word}

pub own : IsNumeralModel (λ ds. list_all is_digit ds ≡ true) (value_after 0)
own = numerals_by_fold _ (search rules) value_after (search rules)

last_part : (b : ℕ) (bs : Word) (t : Bool) → eqb b 48 ≡ t → (b ≡ 48 → length (b ∷ bs) ≡ 1) →
    (not t || eqb (length bs) 0) ≡ true
last_part b bs false e h = refl
last_part b bs true e h =
    eq-eqb (length bs) 0 (let k : suc (length bs) ≡ 1 = h (eqb-true b 48 e) in omega arith)

pub form_of : (w : Word) → list_all is_digit w ≡ true → 0 < length w →
    (get_or w 0 0 ≡ 48 → length w ≡ 1) → is_number w ≡ true
form_of [] d some lead = absurd (omega arith)
form_of (b ∷ bs) d some lead = and_from (is_digit b && list_all is_digit bs)
    (not (eqb b 48) || eqb (length bs) 0) d (last_part b bs (eqb b 48) refl lead)

last_is : (b : ℕ) (bs : Word) (t : Bool) → eqb b 48 ≡ t → (not t || eqb (length bs) 0) ≡ true →
    b ≡ 48 → length (b ∷ bs) ≡ 1
last_is b bs true e h k = let z : length bs ≡ 0 = eqb-true (length bs) 0 h in omega (arith, z)
last_is b bs false e h k = absurd (let t : eqb b 48 ≡ true = eq-eqb b 48 k in cc)

form_parts : (w : Word) → is_number w ≡ true →
    (list_all is_digit w ≡ true) × (0 < length w) × (get_or w 0 0 ≡ 48 → length w ≡ 1)
form_parts [] h = absurd cc
form_parts (b ∷ bs) h =
    let p = and_parts (is_digit b && list_all is_digit bs) (not (eqb b 48) || eqb (length bs) 0) h
    in
    (p.0, omega arith, last_is b bs (eqb b 48) refl p.1)

pub chosen : (b : Bool) (m n : ℕ) → cond b (Some m) None ≡ Some n → (b ≡ true) × (m ≡ n)
chosen true m n e = (refl, cc)
chosen false m n e = absurd cc

-- what is read is spelled so
pub number_is_decimal : (most n : ℕ) (w : Word) → most < 2 ^ 64 → number_within most w ≡ Some n →
    (w ≡ decimal n) × (n ≤ most)
unfolding number_within
number_is_decimal most n w small e =
    let c = chosen (is_number w && leb (value_after 0 w) most) (value_after 0 w) n e in
    let p = and_parts (is_number w) (leb (value_after 0 w) most) c.0 in
    let f = form_parts w p.0 in
    let le : value_after 0 w ≤ most = leb-true (value_after 0 w) most p.1 in
    subst (λ (m : ℕ). (w ≡ decimal m) × (m ≤ most)) c.1
    (sym (decimal-digits_value own w f.0 f.1 f.2 (omega arith)), le)

lead : (n : ℕ) → n < 2 ^ 64 → get_or (decimal n) 0 0 ≡ 48 → length (decimal n) ≡ 1
lead zero small e = ap length (decimal_digit 0 (omega arith))
lead (suc n) small e =
    absurd (let h = first_decimal (suc n) (omega arith) small in omega (arith, h, e))

-- what is spelled so is read
pub decimal_is_number : (most n : ℕ) → n ≤ most → most < 2 ^ 64 →
    number_within most (decimal n) ≡ Some n
unfolding number_within
decimal_is_number most n le small =
    let s : n < 2 ^ 64 = omega arith in
    let v : value_after 0 (decimal n) ≡ n = digits_value-decimal own n s in
    let f : is_number (decimal n) ≡ true = form_of (decimal n) (digits_decimal own n s)
    (decimal_nonempty n s) (lead n s) in
    rw (v, f, le-leb n most le) refl

-- ---- signed numbers

minus_first : (most least : ℕ) (b : ℕ) (bs : Word) → is_digit b ≡ true →
    signed_within most least (b ∷ bs) ≡ option_map pos (number_within most (b ∷ bs))
unfolding signed_within
minus_first most least b bs d =
    let p = and_parts (leb 48 b) (leb b 57) d in
    let far : 48 ≤ b = leb-true 48 b p.0 in
    let other : b ≡ 45 → ⊥ = λ e. absurd (omega arith) in
    rw (ne_eqb b 45 other) refl

pub plain : (most least : ℕ) (w : Word) → is_number w ≡ true →
    signed_within most least w ≡ option_map pos (number_within most w)
plain most least [] h = absurd cc
plain most least (b ∷ bs) h = minus_first most least b bs
    (and_parts (is_digit b) (list_all is_digit bs) (form_parts (b ∷ bs) h).0).0

pub behind_minus : (most least : ℕ) (bs : Word) →
    signed_within most least (45 ∷ bs) ≡ option_and_then negative (number_within least bs)
unfolding signed_within
behind_minus most least bs = refl

pub form : (n : ℕ) → n < 2 ^ 64 → is_number (decimal n) ≡ true
form n s = form_of (decimal n) (digits_decimal own n s) (decimal_nonempty n s) (lead n s)

pub signed_is_read : (most least : ℕ) (z : ℤ) → most < 2 ^ 64 → least < 2 ^ 64 →
    IsBetween most least z → signed_within most least (signed_decimal z) ≡ Some z
signed_is_read most least (pos n) m l h = plain most least (decimal n) (form n (omega arith))
    ∙ ap (option_map pos) (decimal_is_number most n h m)
signed_is_read most least (negsuc n) m l h = behind_minus most least (decimal (suc n))
    ∙ ap (option_and_then negative) (decimal_is_number least (suc n) h l)

-- ---- lists

pub no_comma : (w : Word) → list_all is_digit w ≡ true → All (λ b. eqb b 44 ≡ false) w
no_comma [] h = All-nil (λ b. eqb b 44 ≡ false)
no_comma (b ∷ bs) h =
    let p = and_parts (is_digit b) (list_all is_digit bs) h in
    let far : 48 ≤ b = leb-true 48 b (and_parts (leb 48 b) (leb b 57) p.0).0 in
    let other : b ≡ 44 → ⊥ = λ e. absurd (omega arith) in
    All-cons (λ c. eqb c 44 ≡ false) b bs (ne_eqb b 44 other) (no_comma bs p.1)

-- words that are read, and have no comma
pub record Readable {A : Type 0} (read : Word → Result A LineFault) (f : A → Word) (x : A)
    : Type 0 where
  pub back : read (f x) ≡ Ok x
  pub whole : All (λ b. eqb b 44 ≡ false) (f x)

parts_again : {A : Type 0} (read : Word → Result A LineFault) (f : A → Word) (x : A) (xs : List A) →
    AllByRecursion (Readable read f) (x ∷ xs) →
    parts 44 (join_with_byte 44 (map f (x ∷ xs))) ≡ map f (x ∷ xs)
parts_again read f x [] h = slice_split_none (λ b. eqb b 44) (f x) h.0.whole
parts_again read f x (y ∷ ys) h =
    slice_split_at (λ b. eqb b 44) (f x) 44 (join_with_byte 44 (map f (y ∷ ys))) h.0.whole refl
    ∙ ap (λ ws. f x ∷ ws) (parts_again read f y ys h.1)

each_again : {A : Type 0} (read : Word → Result A LineFault) (f : A → Word) (xs : List A) →
    AllByRecursion (Readable read f) xs → each_of read (map f xs) ≡ Ok xs
unfolding each_of
each_again read f [] h = refl
each_again read f (x ∷ xs) h = rw (h.0.back, each_again read f xs h.1) refl

pub not_true : (b : Bool) → (b ≡ true → ⊥) → b ≡ false
not_true true h = absurd (h refl)
not_true false h = refl

-- what is read word by word is no `-` where that is no word
not_none :
    {A : Type 0} (read : Word → Result A LineFault) (w : Word) (xs : List A) (e : LineFault) →
    read (codes "-") ≡ Err e → each_of read (parts 44 w) ≡ Ok xs → bytes_eq w (codes "-") ≡ false
unfolding each_of
not_none read w xs e bad good = not_true (bytes_eq w (codes "-")) (λ t.
    let same : w ≡ codes "-" = (bytes_eq-Decides w (codes "-")).0 t in
    let alone : each_of read (parts 44 (codes "-")) ≡ Err e = rw bad refl in
    let one : each_of read (parts 44 w) ≡ Err e = ap (λ v. each_of read (parts 44 v)) same ∙ alone
    in
    let k : Ok xs ≡ Err e = sym good ∙ one in cc)

pub list_again : {A : Type 0} (read : Word → Result A LineFault) (f : A → Word) (xs : List A)
    (e : LineFault) → read (codes "-") ≡ Err e → AllByRecursion (Readable read f) xs →
    list_of read (list_word f xs) ≡ Ok xs
unfolding list_of
list_again read f [] e bad h = refl
list_again read f (x ∷ xs) e bad h =
    let good : each_of read (parts 44 (join_with_byte 44 (map f (x ∷ xs)))) ≡ Ok (x ∷ xs) = ap
    (each_of read) (parts_again read f x xs h) ∙ each_again read f (x ∷ xs) h in
    rw (not_none read (join_with_byte 44 (map f (x ∷ xs))) (x ∷ xs) e bad good, good) refl
