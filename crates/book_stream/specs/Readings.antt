-- What is known of a book behind its finished lines, whatever comes. A text's lines are its parts
-- between line feeds: the last of them is not finished. (Own format.)
use Rattle.std.specs.Prelude.{◌≡◌, ◌⊎◌, ℕ, ◌+◌, ◌<◌, ◌≤◌, ◌^◌, List, [], ◌∷◌, ◌++◌, length, Option}
use Rattle.std.specs.Prelude.{Some, None, Err}
use Rattle.wall_policy.specs.Policy.{ChineseWall}
use Rattle.run_model.specs.declared.entry.Entry.{Entry}
use Rattle.coll_text.specs.Numbers.{Word}
use Rattle.audit_book.specs.declared.audit.Audit.{Audit}
use Rattle.audit_book.specs.declared.check_fault.BookFault.{BookFault}
use Rattle.audit_book.specs.declared.fault.ReadFault.TheVariants as faults
use Rattle.audit_book.specs.Audits.{HasSeen}
use Rattle.audit_book.specs.Dues.{IsFaultWithin}
use Rattle.audit_book.specs.Reading.{with_prefix, ended_at, entries_in, lines_in}
use Rattle.book_stream.specs.declared.fault.AuditFault.{AuditFault}
use Rattle.book_stream.specs.declared.fault.AuditFault.TheVariants.{BadLine, LongLine, Cut}
use Rattle.book_stream.specs.declared.fault.AuditFault.TheVariants.{BadEntry, TooMany, Read}
use Rattle.book_stream.specs.declared.fault.AuditFault.TheVariants.{NoMemory}
use Rattle.book_stream.specs.declared.reading.Stage.{Stage}
use Rattle.book_stream.specs.declared.reading.Stage.TheVariants as stages
use Rattle.book_stream.specs.declared.reading.Reading.{Reading}
use Rattle.book_stream.specs.Cuts.{line_limit}

-- These lines are the header and one line for each of these entries: whatever comes behind them, a
-- text says these entries, and then what the lines behind them say.
pub record SayEntries (wall : ChineseWall) (lines : List Word) (entries : List Entry) : Type 0 where
  pub says : (line : Word) (more : List Word) → lines_in wall (lines ++ line ∷ more)
      ≡ with_prefix entries (entries_in wall (length entries) (line ∷ more))
  pub number : length lines ≡ length entries + 1

-- And then the end of so many: a text says these entries, if nothing stands behind them.
abbrev pub SayBook : ChineseWall → List Word → List Entry → Type 0
SayBook wall lines entries = (line : Word) (more : List Word) → lines_in wall (lines ++ line ∷ more)
    ≡ with_prefix entries (ended_at (length entries + 3) (line ∷ more))

-- what the finished lines say, at each stage
abbrev pub SayAt : ChineseWall → Stage → List Word → List Entry → Type 0
SayAt wall stages.Header lines entries = (lines ≡ []) × (entries ≡ [])
SayAt wall stages.Entry lines entries = SayEntries wall lines entries
SayAt wall stages.Ended lines entries = SayBook wall lines entries

-- the audit has gone through these entries; or this is the fault among them
abbrev pub IsJudged : ChineseWall → Audit → Option BookFault → List Entry → Type 0
IsJudged wall audit None entries = HasSeen wall audit entries
IsJudged wall audit (Some fault) entries = IsFaultWithin wall entries fault

-- the reader stands behind these finished lines
pub record HasRead (wall : ChineseWall) (reading : Reading) (lines : List Word) : Type 0 where
  pub entries : List Entry
  pub number : reading.entries ≡ length entries
  pub few : length entries ≤ 2 ^ 62
  pub judged : IsJudged wall reading.audit reading.fault entries
  pub say : SayAt wall reading.stage lines entries

abbrev pub IsReading : ChineseWall → Reading → Type 0
IsReading wall reading = (lines : List Word) × HasRead wall reading lines

-- the lines before this one are the header and entries, or none; the line comes next, and is long
pub record IsLong (wall : ChineseWall) (lines : List Word) (line : Word) (number : ℕ) : Type 0 where
  pub before : (lines ≡ []) ⊎ ((entries : List Entry) × SayEntries wall lines entries)
  pub long : line_limit < length line
  pub place : number ≡ length lines + 1

-- so many entries come before this line
abbrev pub AreTooMany : ChineseWall → List Word → Type 0
AreTooMany wall lines =
    (entries : List Entry) × SayEntries wall lines entries × (2 ^ 62 ≤ length entries)

-- why the reader goes no further than this finished line behind these, whatever comes
abbrev pub IsBadBehind : ChineseWall → List Word → Word → AuditFault → Type 0
IsBadBehind wall lines line (BadLine n) = (next : Word) (more : List Word) →
    lines_in wall (lines ++ line ∷ next ∷ more) ≡ Err (faults.BadLine n)
IsBadBehind wall lines line (LongLine n) = IsLong wall lines line n
IsBadBehind wall lines line TooMany = AreTooMany wall lines
IsBadBehind wall lines line Cut = ⊥
IsBadBehind wall lines line (BadEntry n) = ⊥
IsBadBehind wall lines line Read = ⊥
IsBadBehind wall lines line NoMemory = ⊥

-- it took this line
abbrev pub GoesOn : ChineseWall → (old new : Reading) → Word → Type 0
GoesOn wall old new line = (lines : List Word) → HasRead wall old lines →
    HasRead wall new (lines ++ line ∷ [])

-- it did not, for this reason
abbrev pub StopsAt : ChineseWall → Reading → Word → AuditFault → Type 0
StopsAt wall reading line fault = (lines : List Word) → HasRead wall reading lines →
    IsBadBehind wall lines line fault
