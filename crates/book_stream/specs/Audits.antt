-- What an audit says of all that a source has to give.
use Rattle.std.specs.Prelude.{◌≡◌, ◌≢◌, ◌⊎◌, ℕ, ◌≤◌, List, [], ◌∷◌, ◌++◌, length}
use Rattle.std.specs.Prelude.{◌==◌, true, Result, Ok, Err}
use Rattle.std.specs.Borrow.{Bor}
use Rattle.std.specs.Io.KnownBytes.{Consumes}
use Rattle.wall_labels.specs.Known.{AreLeft}
use Rattle.wall_policy.specs.Policy.{ChineseWall}
use Rattle.run_model.specs.declared.entry.Entry.{Entry}
use Rattle.run_model.specs.Books.{IsSound, IsFirstBad}
use Rattle.coll_text.specs.Numbers.{Word}
use Rattle.coll_text.specs.Reading.{parts}
use Rattle.hall_script.specs.Devices.{Used, NeverFailed, FailedOnce, bytes_before, bytes_after}
use Rattle.audit_book.specs.declared.fault.ReadFault.TheVariants as faults
use Rattle.audit_book.specs.declared.audit.Audit.{Audit}
use Rattle.audit_book.specs.Audits.{IsSeenWhole}
use Rattle.audit_book.specs.Reading.{lines_in, book_in}
use Rattle.book_stream.specs.declared.fault.AuditFault.{AuditFault}
use Rattle.book_stream.specs.declared.fault.AuditFault.TheVariants.{BadLine, LongLine, Cut}
use Rattle.book_stream.specs.declared.fault.AuditFault.TheVariants.{BadEntry, TooMany, Read}
use Rattle.book_stream.specs.declared.fault.AuditFault.TheVariants.{NoMemory}
use Rattle.book_stream.specs.declared.reading.Stage.TheVariants as stages
use Rattle.book_stream.specs.declared.stream.Reader.{Reader}
use Rattle.book_stream.specs.Cuts.{Holds}
use Rattle.book_stream.specs.Readings.{HasRead, IsLong, AreTooMany}

-- ---- what is said of a text

-- it is a sound book of so many entries
abbrev pub IsSoundText : ChineseWall → List ℕ → (number : ℕ) → Type 0
IsSoundText wall text number = (entries : List Entry) × (book_in wall text ≡ Ok entries)
    × IsSound wall entries × (number ≡ length entries)

-- it is a book, and the entry of this number is the first that the posts don't give
abbrev pub IsUnsoundText : ChineseWall → List ℕ → (number : ℕ) → Type 0
IsUnsoundText wall text number =
    (entries : List Entry) × (book_in wall text ≡ Ok entries) × IsFirstBad wall entries number

-- it has a line of this number that is long, finished or not, and those before it are in their form
abbrev pub HasLongLine : ChineseWall → List ℕ → (number : ℕ) → Type 0
HasLongLine wall text number = (lines : List Word) × (line : Word) × (more : List Word)
    × (parts 10 text ≡ lines ++ line ∷ more) × IsLong wall lines line number

-- it has more than 2^62 entries, or 2^64 - 1 bytes or more
abbrev pub HasTooMany : ChineseWall → List ℕ → Type 0
HasTooMany wall text = ((lines : List Word) × (line : Word) × (more : List Word)
    × (parts 10 text ≡ lines ++ line ∷ more) × AreTooMany wall lines)
    ⊎ (18446744073709551615 ≤ length text)

-- What `read_book` and then `check_book` say of the text: the number of its entries, or its fault.
-- Out of memory says nothing, and no text alone is a read fault.
abbrev pub Says : ChineseWall → List ℕ → Result ℕ AuditFault → Type 0
Says wall text (Ok number) = IsSoundText wall text number
Says wall text (Err (BadEntry n)) = IsUnsoundText wall text n
Says wall text (Err (BadLine n)) = book_in wall text ≡ Err (faults.BadLine n)
Says wall text (Err Cut) = book_in wall text ≡ Err faults.Cut
Says wall text (Err (LongLine n)) = HasLongLine wall text n
Says wall text (Err TooMany) = HasTooMany wall text
Says wall text (Err Read) = ⊥
Says wall text (Err NoMemory) = Unit {0}

-- ---- what is said of a source

-- it gave this text without a failure
abbrev pub Gave : {D : Type 0} → Used D → List ℕ → Type 0
Gave d text = NeverFailed d × Consumes (bytes_before d) (bytes_after d) text

-- and has no more to give
abbrev pub GaveAll : {D : Type 0} → Used D → List ℕ → Type 0
GaveAll d text = NeverFailed d × AreLeft (bytes_before d) text

-- it failed behind this text, which has no line at fault
abbrev pub FailedBehind : {D : Type 0} → ChineseWall → Used D → List ℕ → Type 0
FailedBehind wall d text = FailedOnce d × Consumes (bytes_before d) (bytes_after d) text
    × ((n : ℕ) → book_in wall text ≢ Err (faults.BadLine n))

-- What is said of all that the source has to give. A line at fault is told of what the source gave
-- until then, whatever is behind that.
abbrev pub AuditsTo : {D : Type 0} → ChineseWall → Used D → Result ℕ AuditFault → Type 0
AuditsTo wall d (Ok number) = (text : List ℕ) × GaveAll d text × Says wall text (Ok number)
AuditsTo wall d (Err (BadEntry n)) =
    (text : List ℕ) × GaveAll d text × Says wall text (Err (BadEntry n))
AuditsTo wall d (Err Cut) = (text : List ℕ) × GaveAll d text × Says wall text (Err Cut)
AuditsTo wall d (Err (BadLine n)) = (text : List ℕ) × Gave d text
    × ((rest : List ℕ) → Says wall (text ++ rest) (Err (BadLine n)))
AuditsTo wall d (Err (LongLine n)) =
    (text : List ℕ) × Gave d text × Says wall text (Err (LongLine n))
AuditsTo wall d (Err TooMany) = (text : List ℕ) × Gave d text × Says wall text (Err TooMany)
AuditsTo wall d (Err Read) = (text : List ℕ) × FailedBehind wall d text
AuditsTo wall d (Err NoMemory) = NeverFailed d

-- ---- how a reader goes on: words of private contracts

-- it stands behind these finished lines, and in this one
pub record StandsBehind (wall : ChineseWall) (reader : Reader) (lines : List Word) (line : Word)
    : Type 0 where
  pub read : HasRead wall reader.reading lines
  pub holds : Holds reader.line line

abbrev pub IsStanding : ChineseWall → Reader → Type 0
IsStanding wall reader = (lines : List Word) × (line : Word) × StandsBehind wall reader lines line

-- the fault of a text with these parts
abbrev pub IsFaultAmong : ChineseWall → List Word → AuditFault → Type 0
IsFaultAmong wall words (BadLine n) = lines_in wall words ≡ Err (faults.BadLine n)
IsFaultAmong wall words (LongLine n) = (lines : List Word) × (line : Word) × (next : Word)
    × (more : List Word) × (words ≡ lines ++ line ∷ next ∷ more) × IsLong wall lines line n
IsFaultAmong wall words TooMany = (lines : List Word) × (line : Word) × (more : List Word)
    × (words ≡ lines ++ line ∷ more) × AreTooMany wall lines
IsFaultAmong wall words NoMemory = Unit {0}
IsFaultAmong wall words Cut = ⊥
IsFaultAmong wall words (BadEntry n) = ⊥
IsFaultAmong wall words Read = ⊥

-- it took the line that is finished, and stands in the next; or why not, whatever comes
abbrev pub TakesOne : ChineseWall → (old : Reader) → (next : Word) → (new : Reader) →
    Result (Unit {0}) AuditFault → Type 0
TakesOne wall old next new (Ok x) = (lines : List Word) (line : Word) →
    StandsBehind wall old lines line → StandsBehind wall new (lines ++ line ∷ []) next
TakesOne wall old next new (Err fault) = (lines : List Word) (line : Word) (more : List Word) →
    StandsBehind wall old lines line → IsFaultAmong wall (lines ++ line ∷ next ∷ more) fault

-- it took the finished lines of these, and stands in the last; or the fault of a text with them
abbrev pub TakesIn : ChineseWall → (lines words : List Word) → (new : Reader) →
    Result (Unit {0}) AuditFault → Type 0
TakesIn wall lines words new (Ok x) = (more : List Word) × (line : Word)
    × (words ≡ more ++ line ∷ []) × StandsBehind wall new (lines ++ more) line
TakesIn wall lines words new (Err fault) = IsFaultAmong wall (lines ++ words) fault

-- nothing stands behind the end, if it has come
abbrev pub IsClear : Reader → Word → Type 0
IsClear reader line = reader.reading.stage ≡ stages.Ended → (length line == 0) ≡ true

-- something stands behind the end; or the line that is not finished is long already
abbrev pub HasMoreBehind : ChineseWall → List ℕ → AuditFault → Type 0
HasMoreBehind wall text (BadLine n) = book_in wall text ≡ Err (faults.BadLine n)
HasMoreBehind wall text (LongLine n) = HasLongLine wall text n
HasMoreBehind wall text _ = ⊥

-- what is said of the entries of a book: an audit has gone through them all, and they are sound; or
-- their fault
abbrev pub IsVerdict : ChineseWall → List Entry → Result (Bor Audit) AuditFault → Type 0
IsVerdict wall entries (Ok audit) = IsSeenWhole wall entries audit.now
IsVerdict wall entries (Err (BadEntry n)) = IsFirstBad wall entries n
IsVerdict wall entries (Err NoMemory) = Unit {0}
IsVerdict wall entries (Err _) = ⊥

-- what is said of a text that no line at fault is in
abbrev pub EndsSo : ChineseWall → List ℕ → Result (Bor Audit) AuditFault → Type 0
EndsSo wall text (Err Cut) = book_in wall text ≡ Err faults.Cut
EndsSo wall text said = (entries : List Entry) × (book_in wall text ≡ Ok entries)
    × IsVerdict wall entries said
