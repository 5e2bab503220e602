-- Words of paths, byte by byte.
use Rattle.std.proofs.Common.{◌≡◌, ◌≢◌, ◌⊎◌, ℕ, zero, suc, ◌/◌, ◌%◌, ◌<◌, ◌≤◌, ◌==◌, true, false, List, [], ◌∷◌}
use Rattle.std.proofs.Common.{◌++◌, length, take, drop, Option, Some, None, refl, sym, ap, ◌∙◌, subst}
use Rattle.std.proofs.Common.{inl, inr, ⊎_elim, arith, slice_index, append_assoc}
use Rattle.std.specs.Prelude.{◌&&◌, not, nat_lt, option_map, is_some, IsSome, if◌then◌else◌, All}
use Rattle.std.proofs.lemmas.List.Elements.{All-head, All-tail}
use Rattle.std.proofs.lemmas.Bool.{and_parts, not-true, cases_Bool}
use Rattle.std.proofs.lemmas.Bool.Decides.{Decides-eqb}
use Rattle.std.proofs.lemmas.List.{append-nil}
use Rattle.hex.specs.Hex.{IsBytes, encode_with, encode_lower, lower_digits}
use Rattle.chain_file.specs.Words.{is_plain, path_byte, path_word}
use Rattle.chain_file.specs.Reading.{hex_in, plain_then, escaped_then, spelled_in, path_in}
use Rattle.chain_file.proofs.HexWordLemmas.{hex_again, hex_found}

---- The front of a word.

plain_is : (b : ℕ) (r : Option (List ℕ)) → is_plain b ≡ true →
    plain_then b r ≡ option_map (λ path. b ∷ path) r
plain_is b r h = ap (λ t. if t then option_map (λ (path : List ℕ). b ∷ path) r else None) h

plain_not : (b : ℕ) (r : Option (List ℕ)) → is_plain b ≡ false → plain_then b r ≡ None
plain_not b r h = ap (λ t. if t then option_map (λ (path : List ℕ). b ∷ path) r else None) h

pub escape_is : (b : ℕ) (r : Option (List ℕ)) → is_plain b ≡ false →
    escaped_then (Some (b ∷ [])) r ≡ option_map (λ path. b ∷ path) r
escape_is b r h = ap (λ t. if t then None else option_map (λ (path : List ℕ). b ∷ path) r) h

pub escape_not : (b : ℕ) (r : Option (List ℕ)) → is_plain b ≡ true →
    escaped_then (Some (b ∷ [])) r ≡ None
escape_not b r h = ap (λ t. if t then None else option_map (λ (path : List ℕ). b ∷ path) r) h

not_percent : (b : ℕ) → is_plain b ≡ true → (b == 37) ≡ false
not_percent b h =
    let p = and_parts (nat_lt 32 b) (nat_lt b 127 && not (b == 37)) h in
    let q = and_parts (nat_lt b 127) (not (b == 37)) p.1 in
    not-true (b == 37) q.1

other_than : (b : ℕ) → b ≢ 37 → (b == 37) ≡ false
other_than b h = ⊎_elim (λ yes. absurd (h ((Decides-eqb b 37).0 yes))) (λ no. no)
    (cases_Bool (b == 37))

plain_front : (b : ℕ) (w : List ℕ) → is_plain b ≡ true →
    spelled_in (b ∷ w) ≡ option_map (λ path. b ∷ path) (spelled_in w)
unfolding spelled_in
plain_front b [] h = plain_is b (Some []) h
plain_front b (c ∷ []) h = plain_is b (plain_then c (Some [])) h
plain_front b (c ∷ l ∷ w) h =
    ap (λ t. if t then escaped_then (hex_in 1 (c ∷ l ∷ [])) (spelled_in w)
    else plain_then b (spelled_in (c ∷ l ∷ w))) (not_percent b h)
    ∙ plain_is b (spelled_in (c ∷ l ∷ w)) h

none_front : (b : ℕ) (w : List ℕ) → is_plain b ≡ false → ((b == 37) ≡ false) ⊎ (length w < 2) →
    spelled_in (b ∷ w) ≡ None
unfolding spelled_in
none_front b [] h why = plain_not b (Some []) h
none_front b (c ∷ []) h why = plain_not b (plain_then c (Some [])) h
none_front b (c ∷ l ∷ w) h (inl other) =
    ap (λ t. if t then escaped_then (hex_in 1 (c ∷ l ∷ [])) (spelled_in w)
    else plain_then b (spelled_in (c ∷ l ∷ w))) other
    ∙ plain_not b (spelled_in (c ∷ l ∷ w)) h
none_front b (c ∷ l ∷ w) h (inr few) = absurd (omega (arith, few))

escape_front : (c l : ℕ) (w : List ℕ) →
    spelled_in (37 ∷ c ∷ l ∷ w) ≡ escaped_then (hex_in 1 (c ∷ l ∷ [])) (spelled_in w)
unfolding spelled_in
escape_front c l w = refl

pub front_plain : (word rest : List ℕ) (b : ℕ) → 0 < length word → b ≡ slice_index word 0 →
    rest ≡ drop 1 word → is_plain b ≡ true →
    spelled_in word ≡ option_map (λ path. b ∷ path) (spelled_in rest)
front_plain [] rest b some first behind h = absurd (omega (arith, some))
front_plain (x ∷ w) rest b some first behind h =
    let is : b ≡ x = first in
    let front : spelled_in (b ∷ w) ≡ option_map (λ (path : List ℕ). b ∷ path) (spelled_in w) =
    plain_front b w h in
    subst (λ (r : List ℕ). spelled_in (x ∷ w) ≡ option_map (λ (path : List ℕ). b ∷ path)
    (spelled_in r)) (sym behind)
    (ap (λ (y : ℕ). spelled_in (y ∷ w)) (sym is) ∙ front)

pub front_none : (word rest : List ℕ) (b : ℕ) → 0 < length word → b ≡ slice_index word 0 →
    rest ≡ drop 1 word → is_plain b ≡ false → (b ≢ 37) ⊎ (length rest < 2) →
    spelled_in word ≡ None
front_none [] rest b some first behind h why = absurd (omega (arith, some))
front_none (x ∷ w) rest b some first behind h why =
    let is : b ≡ x = first in
    let tail : rest ≡ w = behind in
    ap (λ (y : ℕ). spelled_in (y ∷ w)) (sym is) ∙ none_front b w h
    (⊎_elim (λ other. inl (other_than b other))
    (λ few. inr (subst (λ (r : List ℕ). length r < 2) tail few)) why)

pub front_escape : (word rest digits behind : List ℕ) (b : ℕ) → 0 < length word →
    b ≡ slice_index word 0 → rest ≡ drop 1 word → b ≡ 37 → 2 ≤ length rest →
    digits ≡ take 2 rest → behind ≡ drop 2 rest →
    spelled_in word ≡ escaped_then (hex_in 1 digits) (spelled_in behind)
front_escape [] rest digits behind b some first tail is many front back =
    absurd (omega (arith, some))
front_escape (x ∷ []) rest digits behind b some first tail is many front back =
    absurd (let e : length rest ≡ 0 = ap length tail in omega (arith, e, many))
front_escape (x ∷ c ∷ []) rest digits behind b some first tail is many front back =
    absurd (let e : length rest ≡ 1 = ap length tail in omega (arith, e, many))
front_escape (x ∷ c ∷ l ∷ w) rest digits behind b some first tail is many front back =
    let rest_is : rest ≡ c ∷ l ∷ w = tail in
    let digits_are : digits ≡ c ∷ l ∷ [] = front ∙ ap (take 2) rest_is in
    let behind_is : behind ≡ w = back ∙ ap (drop 2) rest_is in
    let x_is : x ≡ 37 = sym first ∙ is in
    ap (λ (y : ℕ). spelled_in (y ∷ c ∷ l ∷ w)) x_is ∙ escape_front c l w
    ∙ ap (λ (d : List ℕ). escaped_then (hex_in 1 d) (spelled_in w)) (sym digits_are)
    ∙ ap (λ (r : List ℕ). escaped_then (hex_in 1 digits) (spelled_in r)) (sym behind_is)

---- Loops over a word.

pub is_some_map : (b : ℕ) (o : Option (List ℕ)) →
    is_some (option_map (λ path. b ∷ path) o) ≡ is_some o
is_some_map b None = refl
is_some_map b (Some path) = refl

-- the bytes so far, and those of what is left
abbrev pub onto : List ℕ → Option (List ℕ) → Option (List ℕ)
onto bytes rest = option_map (λ path. bytes ++ path) rest

pub onto_none : (o : Option (List ℕ)) → onto [] o ≡ o
onto_none None = refl
onto_none (Some path) = refl

pub onto_more : (bytes : List ℕ) (b : ℕ) (o : Option (List ℕ)) →
    onto bytes (option_map (λ path. b ∷ path) o) ≡ onto (bytes ++ b ∷ []) o
onto_more bytes b None = refl
onto_more bytes b (Some path) = ap Some (sym (append_assoc bytes (b ∷ []) path))

pub path_spelled : (word : List ℕ) → IsSome (path_in word) → path_in word ≡ spelled_in word
unfolding path_in
path_spelled word h = ⊎_elim
    (λ none. absurd (let e : false ≡ true =
    sym (ap (λ t. is_some (if t then None else spelled_in word)) none) ∙ h in cc))
    (λ some. ap (λ t. if t then None else spelled_in word) some)
    (cases_Bool (length word == 0))

pub path_long : (word : List ℕ) → 0 < length word → path_in word ≡ spelled_in word
unfolding path_in
path_long [] some = absurd (omega (arith, some))
path_long (b ∷ word) some = ap (λ t. if t then None else spelled_in (b ∷ word))
    (⊎_elim (λ yes. absurd (let e = (Decides-eqb (length (b ∷ word)) 0).0 yes in omega (arith, e)))
    (λ no. no) (cases_Bool (length (b ∷ word) == 0)))

---- What was written is read again, and the other way round.

plain_word : (b : ℕ) (w : List ℕ) → is_plain b ≡ true → path_byte b ++ w ≡ b ∷ w
unfolding path_byte
plain_word b w h = ap (λ t. (if t then b ∷ [] else 37 ∷ encode_lower (b ∷ [])) ++ w) h

escape_word : (b : ℕ) (w : List ℕ) → is_plain b ≡ false →
    path_byte b ++ w ≡ 37 ∷ (encode_lower (b ∷ []) ++ w)
unfolding path_byte
escape_word b w h = ap (λ t. (if t then b ∷ [] else 37 ∷ encode_lower (b ∷ [])) ++ w) h

one_byte : (b : ℕ) → b < 256 → IsBytes (b ∷ [])
one_byte b low zero = low
one_byte b low (suc i) = omega arith

-- the two digits of a byte
escape_read : (b : ℕ) (w : List ℕ) → b < 256 →
    spelled_in (37 ∷ (encode_lower (b ∷ []) ++ w)) ≡ escaped_then (Some (b ∷ [])) (spelled_in w)
unfolding encode_with
escape_read b w low =
    escape_front (slice_index lower_digits (b / 16))
    (slice_index lower_digits (b % 16)) w
    ∙ ap (λ o. escaped_then o (spelled_in w)) (hex_again 1 (b ∷ []) refl (one_byte b low))

pub spelled_again : (path : List ℕ) → All (λ b. b < 256) path →
    spelled_in (path_word path) ≡ Some path
unfolding spelled_in
spelled_again [] are = refl
spelled_again (b ∷ path) are =
    let low = All-head (λ c. c < 256) b path are in
    let rest = spelled_again path (All-tail (λ c. c < 256) b path are) in
    ⊎_elim
    (λ yes. ap spelled_in (plain_word b (path_word path) yes) ∙ plain_front b (path_word path) yes
    ∙ ap (option_map (λ (p : List ℕ). b ∷ p)) rest)
    (λ no. ap spelled_in (escape_word b (path_word path) no)
    ∙ escape_read b (path_word path) low ∙ escape_is b (spelled_in (path_word path)) no
    ∙ ap (option_map (λ (p : List ℕ). b ∷ p)) rest)
    (cases_Bool (is_plain b))

-- what a step of the reading found
pub record Step (b : ℕ) (r : Option (List ℕ)) (path : List ℕ) : Type 0 where
  pub rest : List ℕ
  pub was : r ≡ Some rest
  pub is : path ≡ b ∷ rest

map_found : (b : ℕ) (r : Option (List ℕ)) (path : List ℕ) →
    option_map (λ p. b ∷ p) r ≡ Some path → Step b r path
map_found b None path h = absurd cc
map_found b (Some rest) path h =
    record { rest = rest; was = refl; is = sym (let e : b ∷ rest ≡ path = cc in e) }

pub plain_found : (b : ℕ) (r : Option (List ℕ)) (path : List ℕ) → plain_then b r ≡ Some path →
    (is_plain b ≡ true) × Step b r path
plain_found b r path h = ⊎_elim
    (λ yes. (yes, map_found b r path (sym (plain_is b r yes) ∙ h)))
    (λ no. absurd (let e : None ≡ Some path = sym (plain_not b r no) ∙ h in cc))
    (cases_Bool (is_plain b))

pub escaped_found : (o r : Option (List ℕ)) (path : List ℕ) → escaped_then o r ≡ Some path →
    (b : ℕ) × (o ≡ Some (b ∷ [])) × (is_plain b ≡ false) × Step b r path
escaped_found None r path h = absurd cc
escaped_found (Some []) r path h = absurd cc
escaped_found (Some (b ∷ [])) r path h = ⊎_elim
    (λ yes. absurd (let e : None ≡ Some path = sym (escape_not b r yes) ∙ h in cc))
    (λ no. (b, refl, no, map_found b r path (sym (escape_is b r no) ∙ h)))
    (cases_Bool (is_plain b))
escaped_found (Some (b ∷ c ∷ bs)) r path h = absurd cc

word_plain : (b : ℕ) (w path : List ℕ) (r : Option (List ℕ)) → is_plain b ≡ true →
    (s : Step b r path) → path_word s.rest ≡ w → path_word path ≡ b ∷ w
word_plain b w path r plain s rest = ap path_word s.is
    ∙ plain_word b (path_word s.rest) plain ∙ ap (λ t. b ∷ t) rest

word_escape : (b c l : ℕ) (w path : List ℕ) (r : Option (List ℕ)) → is_plain b ≡ false →
    encode_lower (b ∷ []) ≡ c ∷ l ∷ [] → (s : Step b r path) → path_word s.rest ≡ w →
    path_word path ≡ 37 ∷ c ∷ l ∷ w
word_escape b c l w path r other digits s rest = ap path_word s.is
    ∙ escape_word b (path_word s.rest) other
    ∙ ap (λ (d : List ℕ). 37 ∷ (d ++ path_word s.rest)) digits
    ∙ ap (λ (t : List ℕ). 37 ∷ c ∷ l ∷ t) rest

none_word : (path : List ℕ) → Some [] ≡ Some path → path_word path ≡ []
none_word path h = ap path_word (sym (let e : [] ≡ path = cc in e))

pub spelled_found : (word path : List ℕ) → spelled_in word ≡ Some path → path_word path ≡ word
unfolding spelled_in
spelled_found [] path h = none_word path h
spelled_found (b ∷ []) path h =
    let f = plain_found b (Some []) path h in
    word_plain b [] path (Some []) f.0 f.1 (none_word f.1.rest f.1.was)
spelled_found (b ∷ c ∷ []) path h =
    let f = plain_found b (plain_then c (Some [])) path h in
    word_plain b (c ∷ []) path (plain_then c (Some [])) f.0 f.1
    (spelled_found (c ∷ []) f.1.rest f.1.was)
spelled_found (b ∷ c ∷ l ∷ word) path h = ⊎_elim
    (λ yes.
    let k : escaped_then (hex_in 1 (c ∷ l ∷ [])) (spelled_in word) ≡ Some path =
    sym (ap (λ t. if t then escaped_then (hex_in 1 (c ∷ l ∷ [])) (spelled_in word)
    else plain_then b (spelled_in (c ∷ l ∷ word))) yes) ∙ h in
    let f = escaped_found (hex_in 1 (c ∷ l ∷ [])) (spelled_in word) path k in
    let digits = (hex_found 1 (c ∷ l ∷ []) (f.0 ∷ []) f.1).0 in
    word_escape f.0 c l word path (spelled_in word) f.2 digits f.3
    (spelled_found word f.3.rest f.3.was)
    ∙ ap (λ (x : ℕ). x ∷ c ∷ l ∷ word) (sym ((Decides-eqb b 37).0 yes)))
    (λ no.
    let k : plain_then b (spelled_in (c ∷ l ∷ word)) ≡ Some path =
    sym (ap (λ t. if t then escaped_then (hex_in 1 (c ∷ l ∷ [])) (spelled_in word)
    else plain_then b (spelled_in (c ∷ l ∷ word))) no) ∙ h in
    let f = plain_found b (spelled_in (c ∷ l ∷ word)) path k in
    word_plain b (c ∷ l ∷ word) path (spelled_in (c ∷ l ∷ word)) f.0 f.1
    (spelled_found (c ∷ l ∷ word) f.1.rest f.1.was))
    (cases_Bool (b == 37))

---- Paths.

pub path_some : (word path : List ℕ) → path_in word ≡ Some path → spelled_in word ≡ Some path
path_some word path h = sym (path_spelled word (ap is_some h)) ∙ h

pub path_found : (word path : List ℕ) → path_in word ≡ Some path → path_word path ≡ word
path_found word path h = spelled_found word path (path_some word path h)

-- a path has a byte
pub path_has : (word path : List ℕ) → path_in word ≡ Some path → 0 < length path
unfolding path_in
path_has word [] h =
    absurd (let is = path_found word [] h in
    let e : Some [] ≡ None = sym h ∙ ap path_in (sym is) in cc)
path_has word (b ∷ path) h = omega arith

-- what a loop over all of a word has
pub all_spelled : (word bytes : List ℕ) → IsSome (path_in word) →
    onto bytes (Some []) ≡ spelled_in word → path_in word ≡ Some bytes
all_spelled word bytes some h = path_spelled word some ∙ sym h ∙ ap Some (append-nil bytes)

pub some_bytes : (word bytes : List ℕ) → IsSome (path_in word) →
    onto bytes (Some []) ≡ spelled_in word → 0 < length bytes
some_bytes word bytes some h = path_has word bytes (all_spelled word bytes some h)

pub nil_of : (xs : List ℕ) → (length xs == 0) ≡ true → xs ≡ []
nil_of [] h = refl
nil_of (x ∷ xs) h = absurd (let e = (Decides-eqb (length (x ∷ xs)) 0).0 h in omega (arith, e))

pub at_end : (word bytes rest : List ℕ) → (length rest == 0) ≡ true →
    onto bytes (spelled_in rest) ≡ spelled_in word → onto bytes (Some []) ≡ spelled_in word
unfolding spelled_in
at_end word bytes rest done h = sym (ap (λ r. onto bytes (spelled_in r)) (nil_of rest done)) ∙ h

pub stuck : (word bytes rest : List ℕ) → spelled_in rest ≡ None →
    onto bytes (spelled_in rest) ≡ spelled_in word → IsSome (path_in word) → ⊥
stuck word bytes rest none h some =
    let e : false ≡ true = ap (λ o. is_some (onto bytes o)) (sym none) ∙ ap is_some h
    ∙ ap is_some (sym (path_spelled word some)) ∙ some in cc

pub is_a_path : (word rest : List ℕ) → (length word == 0) ≡ false → (length rest == 0) ≡ true →
    is_some (spelled_in rest) ≡ is_some (spelled_in word) → true ≡ is_some (path_in word)
unfolding spelled_in path_in
is_a_path word rest some done h =
    ap (λ r. is_some (spelled_in r)) (sym (nil_of rest done)) ∙ h
    ∙ sym (ap (λ t. is_some (if t then None else spelled_in word)) some)

pub word_has : (path : List ℕ) → 0 < length path → 0 < length (path_word path)
word_has [] some = absurd (omega (arith, some))
word_has (b ∷ path) some = ⊎_elim
    (λ plain. let e = ap length (plain_word b (path_word path) plain) in omega (arith, e))
    (λ other. let e = ap length (escape_word b (path_word path) other) in omega (arith, e))
    (cases_Bool (is_plain b))
