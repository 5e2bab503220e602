-- Where and why a text is no book. Line 1 is the header. (Own format.)
use Rattle.std.specs.Prelude.{◌≡◌, ◌≢◌, ◌⊎◌, ℕ, ◌+◌, ◌<◌, ◌==◌, false, List, [], ◌∷◌, ◌++◌, length}
use Rattle.std.specs.Prelude.{All, Ok}
use Rattle.std.specs.List.{AllByRecursion, flat_map}
use Rattle.wall_policy.specs.Policy.{ChineseWall}
use Rattle.run_model.specs.declared.entry.Entry.{Entry}
use Rattle.coll_text.specs.Numbers.{Word}
use Rattle.audit_book.specs.declared.line.Line.TheVariants.{Said, End}
use Rattle.audit_book.specs.Lines.{line_at}
use Rattle.audit_book.specs.Text.{header_line}

-- no line feed in it
abbrev pub IsLine : Word → Type 0
IsLine line = All (λ b. (b == 10) ≡ false) line

abbrev pub IsEntryLine : ChineseWall → Word → Type 0
IsEntryLine wall line = IsLine line × ((entry : Entry) × (line_at wall line ≡ Ok (Said entry)))

-- the header, these lines, each with its line feed, and what is behind them
abbrev pub text_of : ChineseWall → List Word → List ℕ → List ℕ
text_of wall lines rest =
    header_line wall.version ++ (10 ∷ (flat_map (λ line. line ++ (10 ∷ [])) lines ++ rest))

-- behind the header stand lines of entries alone, and then bytes that no line feed ends
pub record StopsEarly (wall : ChineseWall) (text : List ℕ) : Type 0 where
  pub lines : List Word
  pub last : Word
  pub entries : AllByRecursion (IsEntryLine wall) lines
  pub unfinished : IsLine last
  pub whole : text ≡ text_of wall lines last

-- the text stops before a finished `end` line, and all its finished lines are in their form
abbrev pub IsCut : ChineseWall → List ℕ → Type 0
IsCut wall text = IsLine text ⊎ StopsEarly wall text

-- the first line is not the header of the policy's version
pub record HasBadHeader (wall : ChineseWall) (text : List ℕ) (number : ℕ) : Type 0 where
  pub line : Word
  pub rest : List ℕ
  pub finished : IsLine line
  pub other : line ≢ header_line wall.version
  pub whole : text ≡ line ++ (10 ∷ rest)
  pub place : number ≡ 1

-- Behind the header and lines of entries stands a finished line that is neither an entry nor the
-- end of so many.
pub record HasBadEntry (wall : ChineseWall) (text : List ℕ) (number : ℕ) : Type 0 where
  pub lines : List Word
  pub line : Word
  pub rest : List ℕ
  pub entries : AllByRecursion (IsEntryLine wall) lines
  pub finished : IsLine line
  pub no_entry : (entry : Entry) → line_at wall line ≢ Ok (Said entry)
  pub no_end : line_at wall line ≢ Ok (End (length lines))
  pub whole : text ≡ text_of wall lines (line ++ (10 ∷ rest))
  pub place : number ≡ length lines + 2

-- something stands behind the end
pub record HasMore (wall : ChineseWall) (text : List ℕ) (number : ℕ) : Type 0 where
  pub lines : List Word
  pub line : Word
  pub rest : List ℕ
  pub entries : AllByRecursion (IsEntryLine wall) lines
  pub finished : IsLine line
  pub is_end : line_at wall line ≡ Ok (End (length lines))
  pub whole : text ≡ text_of wall lines (line ++ (10 ∷ rest))
  pub some : 0 < length rest
  pub place : number ≡ length lines + 3

-- the line of this number is the first that should not stand there
abbrev pub IsBadAt : ChineseWall → List ℕ → (number : ℕ) → Type 0
IsBadAt wall text number =
    HasBadHeader wall text number ⊎ (HasBadEntry wall text number ⊎ HasMore wall text number)
