-- Words have no space and no line feed in them, so lines are cut into their words, and texts into
-- their lines.
use Rattle.std.proofs.Common.{◌≡◌, ℕ, ◌-◌, ◌/◌, ◌%◌, ◌<◌, ◌≤◌, ◌==◌, true, false, List, [], ◌∷◌}
use Rattle.std.proofs.Common.{◌++◌, Some, None, refl, sym, ap, ◌∙◌, subst, ⊎_elim, arith}
use Rattle.std.proofs.Common.{append_assoc, slice_index}
use Rattle.std.specs.Prelude.{◌&&◌, not, nat_le, nat_lt, codes, All, if◌then◌else◌}
use Rattle.std.specs.List.{AllByRecursion, list_all}
use Rattle.std.proofs.lemmas.Bool.{and_parts, cases_Bool, cases_lt, ltb-true}
use Rattle.std.proofs.lemmas.Bool.Decides.{Decides-eqb, nat_tests}
use Rattle.std.proofs.lemmas.List.Elements.{All-nil, All-cons, All-append, All-head, All-tail}
use Rattle.std.proofs.lemmas.List.Elements.{All-weaker}
use Rattle.std.proofs.lemmas.List.Sums.{AllPass-from_list_all}
use Rattle.std.proofs.lemmas.List.Splits.{slice_split_at, slice_split_none}
use Rattle.hex.specs.Hex.{hex_digit_value, lower_digits, encode_with, encode_lower}
use Rattle.hex.proofs.HexLemmas.{IsDigits-lower_digits}
use Rattle.chain_file.specs.Words.{is_plain, path_byte, path_word, spaced}
use Rattle.chain_file.specs.Text.{IsBegun}
use Rattle.chain_file.specs.Words.{IsDigest}
use Rattle.chain_file.specs.Reading.{parts, Said, Begins, Ends, words_of}

abbrev pub Solid : List ℕ → Type 0
Solid word = All (λ b. 32 < b) word

---- Digits.

no_le : (least b : ℕ) → b < least → nat_le least b ≡ false
no_le least b low = grind (arith, nat_tests)

no_digit : (b : ℕ) → b < 48 → hex_digit_value b ≡ None
no_digit b low =
    ap (λ t. if t && nat_le b 70 then Some (b - 55)
    else if nat_le 97 b && nat_le b 102 then Some (b - 87)
    else if nat_le 48 b && nat_le b 57 then Some (b - 48)
    else None) (no_le 65 b (omega arith))
    ∙ ap (λ t. if t && nat_le b 102 then Some (b - 87)
    else if nat_le 48 b && nat_le b 57 then Some (b - 48)
    else None) (no_le 97 b (omega arith))
    ∙ ap (λ t. if t && nat_le b 57 then Some (b - 48) else None) (no_le 48 b low)

digit_high : (b d : ℕ) → hex_digit_value b ≡ Some d → 32 < b
digit_high b d h = ⊎_elim (λ low. absurd (let e : None ≡ Some d = sym (no_digit b low) ∙ h in cc))
    (λ high. omega arith) (cases_lt b 48)

digit_solid : (d : ℕ) → d < 16 → 32 < slice_index lower_digits d
digit_solid d low = digit_high (slice_index lower_digits d) d (IsDigits-lower_digits d low)

pub hex_solid : (bytes : List ℕ) → All (λ b. b < 256) bytes → Solid (encode_lower bytes)
unfolding encode_with
hex_solid [] are = All-nil (λ b. 32 < b)
hex_solid (b ∷ bytes) are =
    let P : ℕ → Type 0 = λ x. 32 < x in
    let low : b < 256 = All-head (λ x. x < 256) b bytes are in
    let high = slice_index lower_digits (b / 16) in
    let back = slice_index lower_digits (b % 16) in
    let rest : Solid (encode_lower bytes) =
    hex_solid bytes (All-tail (λ x. x < 256) b bytes are) in
    All-cons P high (back ∷ encode_lower bytes) (digit_solid (b / 16) (omega arith))
    (All-cons P back (encode_lower bytes) (digit_solid (b % 16) (omega arith)) rest)

---- Words.

word_solid : (word : List ℕ) → list_all (λ b. nat_lt 32 b) word ≡ true → Solid word
word_solid word h = All-weaker (λ b. nat_lt 32 b ≡ true) (λ b. 32 < b) (λ b. ltb-true 32 b) word
    (AllPass-from_list_all (λ b. nat_lt 32 b) word h)

byte_solid : (b : ℕ) → b < 256 → Solid (path_byte b)
unfolding path_byte
byte_solid b low =
    let P : ℕ → Type 0 = λ x. 32 < x in
    ⊎_elim
    (λ plain. subst Solid
    (sym (ap (λ t. if t then b ∷ [] else 37 ∷ encode_lower (b ∷ [])) plain))
    (All-cons P b [] (ltb-true 32 b
    (and_parts (nat_lt 32 b) (nat_lt b 127 && not (b == 37)) plain).0) (All-nil P)))
    (λ other. subst Solid
    (sym (ap (λ t. if t then b ∷ [] else 37 ∷ encode_lower (b ∷ [])) other))
    (All-cons P 37 (encode_lower (b ∷ [])) (omega arith)
    (hex_solid (b ∷ []) (All-cons (λ x. x < 256) b [] low (All-nil (λ x. x < 256))))))
    (cases_Bool (is_plain b))

pub path_solid : (path : List ℕ) → All (λ b. b < 256) path → Solid (path_word path)
path_solid [] are = All-nil (λ b. 32 < b)
path_solid (b ∷ path) are = All-append (λ x. 32 < x) (path_byte b) (path_word path)
    (byte_solid b (All-head (λ x. x < 256) b path are))
    (path_solid path (All-tail (λ x. x < 256) b path are))

-- what can stand in a file
abbrev pub Fits : Said → Type 0
Fits (Begins begun) = IsBegun begun
Fits (Ends digest) = IsDigest digest

pub words_solid : (said : Said) → Fits said → AllByRecursion Solid (words_of said)
words_solid (Begins begun) fits = (
  word_solid (codes "begun") refl,
  (
    path_solid begun.policy fits.policy.1,
    (hex_solid begun.policy_digest fits.policy_digest.1, (path_solid begun.book fits.book.1, tt)),
  ),
)
words_solid (Ends digest) fits = (word_solid (codes "ended") refl, (hex_solid digest fits.1, tt))

---- Cut at spaces and line feeds.

other_byte : (separator least b : ℕ) → separator ≤ least → least < b → (b == separator) ≡ false
other_byte separator least b up high = ⊎_elim
    (λ same. absurd (let e = (Decides-eqb b separator).0 same in omega (arith, e)))
    (λ other. other) (cases_Bool (b == separator))

free : (separator least : ℕ) (word : List ℕ) → separator ≤ least → All (λ b. least < b) word →
    All (λ b. (b == separator) ≡ false) word
free separator least word up are = All-weaker (λ b. least < b) (λ b. (b == separator) ≡ false)
    (λ b. other_byte separator least b up) word are

pub cut_at : (separator least : ℕ) (word rest : List ℕ) → separator ≤ least →
    All (λ b. least < b) word →
    parts separator (word ++ (separator ∷ rest)) ≡ word ∷ parts separator rest
cut_at separator least word rest up are = slice_split_at (λ b. b == separator) word separator rest
    (free separator least word up are) ((Decides-eqb separator separator).1 refl)

pub split_spaced : (words : List (List ℕ)) (last : List ℕ) → AllByRecursion Solid words →
    Solid last → parts 32 (spaced words ++ last) ≡ words ++ last ∷ []
split_spaced [] last are solid =
    slice_split_none (λ b. b == 32) last (free 32 32 last (omega arith) solid)
split_spaced (word ∷ words) last are solid =
    ap (parts 32) (append_assoc (word ++ 32 ∷ []) (spaced words) last
    ∙ append_assoc word (32 ∷ []) (spaced words ++ last))
    ∙ cut_at 32 32 word (spaced words ++ last) (omega arith) are.0
    ∙ ap (λ ws. word ∷ ws) (split_spaced words last are.1 solid)

solid_long : (word : List ℕ) → Solid word → All (λ b. 31 < b) word
solid_long word solid = All-weaker (λ b. 32 < b) (λ b. 31 < b) (λ b high. omega arith) word solid

spaced_long : (words : List (List ℕ)) → AllByRecursion Solid words →
    All (λ b. 31 < b) (spaced words)
spaced_long [] are = All-nil (λ b. 31 < b)
spaced_long (word ∷ words) are =
    let P : ℕ → Type 0 = λ b. 31 < b in
    All-append P (word ++ 32 ∷ []) (spaced words)
    (All-append P word (32 ∷ []) (solid_long word are.0)
    (All-cons P 32 [] (omega arith) (All-nil P)))
    (spaced_long words are.1)

pub line_long : (words : List (List ℕ)) (head : List ℕ) → AllByRecursion Solid words →
    Solid head → All (λ b. 31 < b) (spaced words ++ head)
line_long words head are solid = All-append (λ b. 31 < b) (spaced words) head
    (spaced_long words are) (solid_long head solid)
