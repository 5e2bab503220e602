-- What was due where a text is no book. (Own rule.) What a line says is said by the grammar of
-- lines of a book.
use Rattle.std.specs.Prelude.{◌≡◌, ◌≢◌, ℕ, ◌-◌, ◌<◌, ◌≤◌, List, slice_get, Some, Ok, Err}
use Rattle.wall_policy.specs.Policy.{ChineseWall}
use Rattle.run_model.specs.declared.entry.Entry.{Entry}
use Rattle.coll_text.specs.declared.fault.LineFault.{LineFault}
use Rattle.coll_text.specs.Numbers.{Word}
use Rattle.coll_text.specs.Reading.{parts}
use Rattle.audit_book.specs.declared.line.Line.TheVariants.{Said, End}
use Rattle.audit_book.specs.Lines.{line_at}
use Rattle.audit_book.specs.Text.{header_line}
use Rattle.book_places.specs.declared.due.Due.{Due}
use Rattle.book_places.specs.declared.due.Due.TheVariants as dues

-- the line of that number, counted from 1; what stands behind the last line feed is one too
pub record IsLineOf (text : List ℕ) (number : ℕ) (line : Word) : Type 0 where
  pub counted : 1 ≤ number
  pub there : slice_get (parts 10 text) (number - 1) ≡ Some line

-- the lines behind the header and before this number are entries
abbrev pub AreEntriesBefore : ChineseWall → List ℕ → (number : ℕ) → Type 0
AreEntriesBefore wall text number = (n : ℕ) (line : Word) → 1 < n → n < number →
    IsLineOf text n line → (entry : Entry) × (line_at wall line ≡ Ok (Said entry))

-- the first line is not the header of the policy's version
pub record LacksHeader (wall : ChineseWall) (text : List ℕ) (number : ℕ) : Type 0 where
  pub first : number ≡ 1
  pub line : Word
  pub at : IsLineOf text number line
  pub other : line ≢ header_line wall.version

-- behind the header and entries stands a line that is neither an entry nor an end
pub record LacksEntry (wall : ChineseWall) (text : List ℕ) (number : ℕ) : Type 0 where
  pub behind : 2 ≤ number
  pub entries : AreEntriesBefore wall text number
  pub line : Word
  pub at : IsLineOf text number line
  pub fault : LineFault
  pub answer : line_at wall line ≡ Err fault

-- behind the header and entries stands an end that states another number than theirs
pub record StatesOther (wall : ChineseWall) (text : List ℕ) (number stated : ℕ) : Type 0 where
  pub behind : 2 ≤ number
  pub entries : AreEntriesBefore wall text number
  pub line : Word
  pub at : IsLineOf text number line
  pub end : line_at wall line ≡ Ok (End stated)
  pub other : stated ≢ number - 2

-- the line before is an end that states the number of the entries before it
pub record EndsBefore (wall : ChineseWall) (text : List ℕ) (number : ℕ) : Type 0 where
  pub behind : 3 ≤ number
  pub line : Word
  pub at : IsLineOf text (number - 1) line
  pub end : line_at wall line ≡ Ok (End (number - 3))

-- what was due at the line of this number, which should not stand there
abbrev pub IsDueAt : ChineseWall → List ℕ → (number : ℕ) → Due → Type 0
IsDueAt wall text number dues.Header = LacksHeader wall text number
IsDueAt wall text number dues.Entry = LacksEntry wall text number
IsDueAt wall text number (dues.End stated) = StatesOther wall text number stated
IsDueAt wall text number dues.Nothing =
    EndsBefore wall text number × AreEntriesBefore wall text (number - 1)
