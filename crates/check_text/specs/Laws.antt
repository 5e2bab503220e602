-- What holds of all lines.
use Rattle.std.specs.Prelude.{◌≡◌, ℕ, ◌+◌, ◌-◌, ◌<◌, ◌≤◌, true, false, List, [], ◌∷◌, length, Some}
use Rattle.std.specs.Prelude.{All, ◌⊎◌, codes, slice_get}
use Rattle.std.specs.List.{list_all}
use Rattle.coll_text.specs.declared.fault.LineFault.{LineFault}
use Rattle.coll_text.specs.declared.fault.LineFault.TheVariants.{BadShape}
use Rattle.coll_text.specs.Numbers.{Word}
use Rattle.coll_text.specs.Reading.{parts, is_printable}
use Rattle.script_places.specs.declared.found.Found.{Found}
use Rattle.script_places.specs.Places.{column_of}
use Rattle.check_text.specs.Words.{word_from, ends_in_space}
use Rattle.check_text.specs.Sentences.{complaint_of, byte_text, shape_text, sentence, told_line}

-- whatever bytes a line has, no sentence on it has one that is not printable
abbrev pub SentencesArePrintable : Type 0
SentencesArePrintable = (fault : LineFault) (line : List ℕ) (column : ℕ) →
    All (λ b. b < 256) line → list_all is_printable (sentence fault line column) ≡ true

-- Where number and column have at most eight digits, a line has at most 100 bytes behind the path,
-- its end among them.
abbrev pub LinesAreShort : Type 0
LinesAreShort = (path line : List ℕ) (found : Found) → found.line < 100000000 →
    found.column < 100000000 → All (λ b. b < 256) line →
    length (told_line path line found) ≤ length path + 100

-- the word that begins in the column of word i is that word; none begins behind the line
abbrev pub WordIsAtFault : Type 0
WordIsAtFault =
    ((line : List ℕ) (i : ℕ) (w : Word) → slice_get (parts 32 line) i ≡ Some w →
    word_from line (column_of (parts 32 line) i) ≡ w)
    × ((line : List ℕ) → word_from line (length line + 1) ≡ [])

abbrev pub IsSaidEmpty : List ℕ → Type 0
IsSaidEmpty said = (said ≡ codes "an empty field: one space too many")
    ⊎ (said ≡ codes "an empty field: the line ends in a space")

-- What is said of a bad shape is so: at a word, that there is one field too many, or an empty one;
-- behind a line that ends in no space, that one is missing; at a byte that is not printable, which
-- byte it is.
pub record ShapesAreSaid : Type 0 where
  pub too_many : (line : List ℕ) (i b : ℕ) (w : Word) → list_all is_printable line ≡ true →
      slice_get (parts 32 line) i ≡ Some (b ∷ w) →
      shape_text line (column_of (parts 32 line) i) ≡ complaint_of (b ∷ w) BadShape
  pub empty : (line : List ℕ) (i : ℕ) → 0 < length line → slice_get (parts 32 line) i ≡ Some [] →
      IsSaidEmpty (shape_text line (column_of (parts 32 line) i))
  pub missing : (line : List ℕ) → ends_in_space line ≡ false →
      shape_text line (length line + 1) ≡ codes "a field is missing at the end of the line"
  pub unprintable : (line : List ℕ) (column byte : ℕ) → slice_get line (column - 1) ≡ Some byte →
      is_printable byte ≡ false → shape_text line column ≡ byte_text byte
