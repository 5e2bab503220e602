-- What sentences are made of: printable bytes, and not many.
use Rattle.std.proofs.Common.{◌≡◌, ℕ, ◌+◌, ◌-◌, ◌%◌, ◌<◌, ◌≤◌, ◌^◌, ◌==◌, true}
use Rattle.std.proofs.Common.{cond, List, [], ◌∷◌, ◌++◌, length, map, take, leb}
use Rattle.std.proofs.Common.{Option, Some, None, refl, ◌∙◌, subst, arith, slice_get, codes}
use Rattle.std.proofs.Common.{lit≤}
use Rattle.std.specs.Prelude.{All}
use Rattle.std.specs.List.{list_all}
use Rattle.std.specs.Fmt.{decimal}
use Rattle.std.proofs.lemmas.Bool.{cond_both, and_from, le-leb, leb-true, leb-false}
use Rattle.std.proofs.lemmas.Fmt.{decimal_by_steps, length-decimal-le}
use Rattle.std.proofs.lemmas.List.{length-append, length-map, length-take-le}
use Rattle.std.proofs.lemmas.List.Folds.{list_all-append}
use Rattle.std.proofs.lemmas.Option.{get_or_from_slice_get, slice_get_within}
use Rattle.coll_text.specs.declared.fault.LineFault.{LineFault}
use Rattle.coll_text.specs.declared.fault.LineFault.TheVariants.{BadVerb, BadShape, BadField}
use Rattle.coll_text.specs.declared.fault.LineFault.TheVariants.{BadKind, BadType, UnknownOp}
use Rattle.coll_text.specs.declared.fault.LineFault.TheVariants.{BadLabel, BadNumber, OddPair}
use Rattle.coll_text.specs.declared.fault.LineFault.TheVariants.{NoMemory}
use Rattle.coll_text.specs.Numbers.{Word}
use Rattle.coll_text.specs.Reading.{is_printable}
use Rattle.script_places.specs.declared.found.Found.{Found}
use Rattle.check_text.specs.Words.{word_from, ends_in_space, shown, shown_word, quoted}
use Rattle.script_places.specs.Places.{process_column}
use Rattle.check_text.specs.Sentences.{complaint, subject, complaint_of, shape_of_byte}
use Rattle.check_text.specs.Sentences.{field_complaint}
use Rattle.check_text.specs.Sentences.{shape_of_end, shape_at, sentence, place_text}
use Rattle.check_text.specs.Laws.{SentencesArePrintable, LinesAreShort}

---- printable bytes

abbrev ArePrintable : List ℕ → Type 0
ArePrintable bytes = list_all is_printable bytes ≡ true

joined : (s t : List ℕ) → ArePrintable s → ArePrintable t → ArePrintable (s ++ t)
joined s t one two = list_all-append is_printable s t
    ∙ and_from (list_all is_printable s) (list_all is_printable t) one two

shown_printable : (b : ℕ) → is_printable (shown b) ≡ true
shown_printable b = cond_both (is_printable b) b 63 (λ c. is_printable c ≡ true) (λ e. e)
    (λ e. refl)

all_shown : (bytes : List ℕ) → ArePrintable (map shown bytes)
all_shown [] = refl
all_shown (b ∷ bytes) = and_from (is_printable (shown b)) (list_all is_printable (map shown bytes))
    (shown_printable b) (all_shown bytes)

word_printable : (w : Word) → ArePrintable (shown_word w)
word_printable w = cond_both (leb (length w) 36) (map shown w) (map shown (take 34 w) ++ codes "..")
    ArePrintable (λ e. all_shown w)
    (λ e. joined (map shown (take 34 w)) (codes "..") (all_shown (take 34 w)) refl)

quoted_printable : (w : Word) → ArePrintable (quoted w)
quoted_printable w = joined (codes "\"" ++ shown_word w) (codes "\"")
    (joined (codes "\"") (shown_word w) refl (word_printable w)) refl

subject_printable : (w : Word) → ArePrintable (subject w)
subject_printable w = cond_both (length w == 0) (codes "the end of the line") (quoted w)
    ArePrintable (λ e. refl) (λ e. quoted_printable w)

complaint_printable : (fault : LineFault) → ArePrintable (complaint fault)
complaint_printable BadVerb = refl
complaint_printable BadShape = refl
complaint_printable BadField = refl
complaint_printable BadKind = refl
complaint_printable BadType = refl
complaint_printable UnknownOp = refl
complaint_printable BadLabel = refl
complaint_printable BadNumber = refl
complaint_printable OddPair = refl
complaint_printable NoMemory = refl

field_printable : (line : List ℕ) (column : ℕ) → ArePrintable (field_complaint line column)
field_printable line column = cond_both (column == process_column line)
    (codes " is no process of the policy") (complaint BadField) ArePrintable (λ e. refl) (λ e. refl)

complaint_of_printable : (w : Word) (fault : LineFault) → ArePrintable (complaint_of w fault)
complaint_of_printable w fault = joined (subject w) (complaint fault) (subject_printable w)
    (complaint_printable fault)

digit_printable : (n : ℕ) → n < 10 → is_printable (48 + n) ≡ true
digit_printable n low = and_from (leb 32 (48 + n)) (leb (48 + n) 126)
    (le-leb 32 (48 + n) (omega arith)) (le-leb (48 + n) 126 (omega arith))

decimal_printable : (n : ℕ) → n < 2 ^ 64 → ArePrintable (decimal n)
decimal_printable n small = decimal_by_steps (λ k ds. ArePrintable ds)
    (λ k low. and_from (is_printable (48 + k)) true (digit_printable k low) refl)
    (λ k ds high so. joined ds ((48 + k % 10) ∷ []) so
    (and_from (is_printable (48 + k % 10)) true (digit_printable (k % 10) (omega arith)) refl))
    n small

byte_printable : (w : Word) (b : ℕ) → b < 256 → ArePrintable (shape_of_byte w b)
byte_printable w b low = cond_both (is_printable b)
    (cond (b == 32) (codes "an empty field: one space too many") (complaint_of w BadShape))
    (codes "byte " ++ decimal b ++ codes " is not printable ASCII") ArePrintable
    (λ e. cond_both (b == 32) (codes "an empty field: one space too many") (complaint_of w BadShape)
    ArePrintable (λ f. refl) (λ f. complaint_of_printable w BadShape))
    (λ e. joined (codes "byte " ++ decimal b) (codes " is not printable ASCII")
    (joined (codes "byte ") (decimal b) refl (decimal_printable b (omega arith))) refl)

end_printable : (line : List ℕ) → ArePrintable (shape_of_end line)
end_printable line = cond_both (ends_in_space line)
    (codes "an empty field: the line ends in a space")
    (codes "a field is missing at the end of the line") ArePrintable (λ e. refl) (λ e. refl)

-- what is said of a line depends on its bytes alone
at_byte : (Q : List ℕ → Type 0) (line : List ℕ) (w : Word) (k : ℕ) →
    ((b : ℕ) → b < 256 → Q (shape_of_byte w b)) → Q (shape_of_end line) →
    All (λ b. b < 256) line → Q (shape_at line w (slice_get line k))
at_byte Q line w k some none bytes = go (slice_get line k) refl
  where
    go : (o : Option ℕ) → slice_get line k ≡ o → Q (shape_at line w o)
    go (Some b) at = some b (subst (λ c. c < 256) (get_or_from_slice_get line k b 0 at)
        (bytes k 0 (slice_get_within line k b at)))
    go None at = none

pub sentences_are_printable : SentencesArePrintable
sentences_are_printable BadShape line column bytes = at_byte ArePrintable line
    (word_from line column) (column - 1)
    (λ b low. byte_printable (word_from line column) b low) (end_printable line) bytes
sentences_are_printable OddPair line column bytes = refl
sentences_are_printable BadVerb line column bytes =
    complaint_of_printable (word_from line column) BadVerb
sentences_are_printable BadField line column bytes = joined (subject (word_from line column))
    (field_complaint line column) (subject_printable (word_from line column))
    (field_printable line column)
sentences_are_printable BadKind line column bytes =
    complaint_of_printable (word_from line column) BadKind
sentences_are_printable BadType line column bytes =
    complaint_of_printable (word_from line column) BadType
sentences_are_printable UnknownOp line column bytes =
    complaint_of_printable (word_from line column) UnknownOp
sentences_are_printable BadLabel line column bytes =
    complaint_of_printable (word_from line column) BadLabel
sentences_are_printable BadNumber line column bytes =
    complaint_of_printable (word_from line column) BadNumber
sentences_are_printable NoMemory line column bytes =
    complaint_of_printable (word_from line column) NoMemory

---- not many bytes

abbrev AreFew : List ℕ → Type 0
AreFew bytes = length bytes ≤ 79

word_few : (w : Word) → length (shown_word w) ≤ 36
word_few w = cond_both (leb (length w) 36) (map shown w) (map shown (take 34 w) ++ codes "..")
    (λ bytes. length bytes ≤ 36)
    (λ e. let few = leb-true (length w) 36 e in
    let same = length-map w shown in omega (arith, few, same))
    (λ e. let many = leb-false (length w) 36 e in
    let both = length-append (map shown (take 34 w)) (codes "..") in
    let same = length-map (take 34 w) shown in
    let some = length-take-le 34 w (omega arith) in
    omega (arith, both, same, some))

quoted_few : (w : Word) → length (quoted w) ≤ 38
quoted_few w =
    let both = length-append (codes "\"" ++ shown_word w) (codes "\"") in
    let prefix = length-append (codes "\"") (shown_word w) in
    let word = word_few w in
    omega (arith, both, prefix, word)

subject_few : (w : Word) → length (subject w) ≤ 38
subject_few w = cond_both (length w == 0) (codes "the end of the line") (quoted w)
    (λ bytes. length bytes ≤ 38) (λ e. lit≤ tt) (λ e. quoted_few w)

complaint_few : (fault : LineFault) → length (complaint fault) ≤ 41
complaint_few BadVerb = lit≤ tt
complaint_few BadShape = lit≤ tt
complaint_few BadField = lit≤ tt
complaint_few BadKind = lit≤ tt
complaint_few BadType = lit≤ tt
complaint_few UnknownOp = lit≤ tt
complaint_few BadLabel = lit≤ tt
complaint_few BadNumber = lit≤ tt
complaint_few OddPair = lit≤ tt
complaint_few NoMemory = lit≤ tt

field_few : (line : List ℕ) (column : ℕ) → length (field_complaint line column) ≤ 41
field_few line column = cond_both (column == process_column line)
    (codes " is no process of the policy") (complaint BadField) (λ bytes. length bytes ≤ 41)
    (λ e. lit≤ tt) (λ e. lit≤ tt)

complaint_of_few : (w : Word) (fault : LineFault) → AreFew (complaint_of w fault)
complaint_of_few w fault =
    let both = length-append (subject w) (complaint fault) in
    let prefix = subject_few w in
    let back = complaint_few fault in
    omega (arith, both, prefix, back)

byte_few : (w : Word) (b : ℕ) → b < 256 → AreFew (shape_of_byte w b)
byte_few w b low = cond_both (is_printable b)
    (cond (b == 32) (codes "an empty field: one space too many") (complaint_of w BadShape))
    (codes "byte " ++ decimal b ++ codes " is not printable ASCII") AreFew
    (λ e. cond_both (b == 32) (codes "an empty field: one space too many") (complaint_of w BadShape)
    AreFew (λ f. lit≤ tt) (λ f. complaint_of_few w BadShape))
    (λ e. let both = length-append (codes "byte " ++ decimal b) (codes " is not printable ASCII") in
    let prefix = length-append (codes "byte ") (decimal b) in
    let digits = length-decimal-le 3 b (omega arith) (omega arith) (omega arith) in
    omega (arith, both, prefix, digits))

end_few : (line : List ℕ) → AreFew (shape_of_end line)
end_few line = cond_both (ends_in_space line)
    (codes "an empty field: the line ends in a space")
    (codes "a field is missing at the end of the line") AreFew (λ e. lit≤ tt) (λ e. lit≤ tt)

sentence_few : (fault : LineFault) (line : List ℕ) (column : ℕ) → All (λ b. b < 256) line →
    AreFew (sentence fault line column)
sentence_few BadShape line column bytes = at_byte AreFew line
    (word_from line column) (column - 1)
    (λ b low. byte_few (word_from line column) b low) (end_few line) bytes
sentence_few OddPair line column bytes = lit≤ tt
sentence_few BadVerb line column bytes = complaint_of_few (word_from line column) BadVerb
sentence_few BadField line column bytes =
    let both = length-append (subject (word_from line column)) (field_complaint line column) in
    let prefix = subject_few (word_from line column) in
    let back = field_few line column in
    omega (arith, both, prefix, back)
sentence_few BadKind line column bytes = complaint_of_few (word_from line column) BadKind
sentence_few BadType line column bytes = complaint_of_few (word_from line column) BadType
sentence_few UnknownOp line column bytes = complaint_of_few (word_from line column) UnknownOp
sentence_few BadLabel line column bytes = complaint_of_few (word_from line column) BadLabel
sentence_few BadNumber line column bytes = complaint_of_few (word_from line column) BadNumber
sentence_few NoMemory line column bytes = complaint_of_few (word_from line column) NoMemory

place_few : (path : List ℕ) (found : Found) → found.line < 100000000 →
    found.column < 100000000 → length (place_text path found) ≤ length path + 20
place_few path found line column =
    let one = length-append path (codes ":") in
    let two = length-append (path ++ codes ":") (decimal found.line) in
    let three = length-append (path ++ codes ":" ++ decimal found.line) (codes ":") in
    let four = length-append (path ++ codes ":" ++ decimal found.line ++ codes ":")
    (decimal found.column) in
    let five = length-append
    (path ++ codes ":" ++ decimal found.line ++ codes ":" ++ decimal found.column) (codes ": ") in
    let of_line = length-decimal-le 8 found.line (omega arith) line (omega arith) in
    let of_column = length-decimal-le 8 found.column (omega arith) column (omega arith) in
    omega (arith, one, two, three, four, five, of_line, of_column)

pub lines_are_short : LinesAreShort
lines_are_short path line found number column bytes =
    let all = length-append (place_text path found ++ sentence found.fault line found.column)
    (codes "\n") in
    let both = length-append (place_text path found) (sentence found.fault line found.column) in
    let place = place_few path found number column in
    let few = sentence_few found.fault line found.column bytes in
    omega (arith, all, both, place, few)
