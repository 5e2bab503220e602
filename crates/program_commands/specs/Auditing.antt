-- How an audit ends.
use Rattle.std.specs.Prelude.{◌≡◌, ℕ, ◌⊎◌, List, length, codes, Ok, Err, IsOk}
use Rattle.wall_policy.specs.Policy.{ChineseWall}
use Rattle.run_model.specs.declared.entry.Entry.{Entry}
use Rattle.run_model.specs.Books.{IsSound, IsFirstBad}
use Rattle.run_model.specs.PostLaws.{KeepsTheWall}
use Rattle.audit_book.specs.declared.fault.ReadFault.{ReadFault as TextFault}
use Rattle.audit_book.specs.declared.fault.ReadFault.TheVariants as texts
use Rattle.audit_book.specs.Reading.{book_in}
use Rattle.book_stream.specs.declared.fault.AuditFault.TheVariants as audits
use Rattle.book_stream.specs.Audits.{GaveAll, AuditsTo}
use Rattle.hall_script.specs.Devices.{Used, IsUntouched, NeverFailed, IsRead, IsUnreadable}
use Rattle.hall_script.specs.Devices.{IsWritten, BrokeOff}
use Rattle.program_commands.specs.declared.audit.Finding.{Finding}
use Rattle.program_commands.specs.declared.audit.Finding.TheVariants as findings
use Rattle.program_commands.specs.declared.ending.Ending.{Ending}
use Rattle.program_commands.specs.declared.ending.Ending.TheVariants.{Done, BadBookLine, CutBook}
use Rattle.program_commands.specs.declared.ending.Ending.TheVariants.{Unsound}
use Rattle.program_commands.specs.declared.ending.Ending.TheVariants.{ReadFault, WriteFault}
use Rattle.program_commands.specs.declared.ending.Ending.TheVariants.{NoMemory, Exhausted}
use Rattle.program_commands.specs.Endings.{numbered_line}
use Rattle.program_commands.specs.Walls.{IsPolicyOf, IsNoPolicy}

abbrev pub text_ending : TextFault → Ending
text_ending (texts.BadLine n) = BadBookLine n
text_ending texts.Cut = CutBook
text_ending texts.NoMemory = NoMemory

-- the most bytes of a book
abbrev pub book_limit : ℕ
book_limit = 134217728

-- it was read without a failure, and is the text of a book of these entries
abbrev pub IsBookOf : {B : Type 0} → ChineseWall → Used B → List Entry → Type 0
IsBookOf wall book entries =
    (bytes : List ℕ) × IsRead book book_limit bytes × (book_in wall bytes ≡ Ok entries)

-- it was read without a failure, and is no text of a book
abbrev pub IsNoText : {B : Type 0} → ChineseWall → Used B → TextFault → Type 0
IsNoText wall book fault =
    (bytes : List ℕ) × IsRead book book_limit bytes × (book_in wall bytes ≡ Err fault)

-- no book was checked, and this is why
abbrev pub IsNoBook : {B : Type 0} → ChineseWall → Used B → Ending → Type 0
IsNoBook wall book (BadBookLine n) = IsNoText wall book (texts.BadLine n)
IsNoBook wall book CutBook = IsNoText wall book texts.Cut
IsNoBook wall book ReadFault = IsUnreadable book book_limit
IsNoBook wall book NoMemory = NeverFailed book
IsNoBook wall book ending = ⊥

-- what came of a text that gave no book: its fault; or memory ran out, in place of a book
abbrev pub GivesNoBook : ChineseWall → (text : List ℕ) → Ending → Type 0
GivesNoBook wall text (BadBookLine n) = book_in wall text ≡ Err (texts.BadLine n)
GivesNoBook wall text CutBook = book_in wall text ≡ Err texts.Cut
GivesNoBook wall text NoMemory = IsOk (book_in wall text)
GivesNoBook wall text ending = ⊥

-- What is found of a book of these entries: it is sound, keeps the wall, and this is their number;
-- or this is the number of the first bad one.
abbrev pub IsFound : ChineseWall → List Entry → Finding → Type 0
IsFound wall entries (findings.Sound n) =
    IsSound wall entries × KeepsTheWall wall entries × (n ≡ length entries)
IsFound wall entries (findings.Unsound n) = IsFirstBad wall entries n

abbrev pub finding_line : Finding → List ℕ
finding_line (findings.Sound n) = numbered_line (codes "sound ") n
finding_line (findings.Unsound n) = numbered_line (codes "unsound at entry ") n

abbrev pub finding_ending : Finding → Ending
finding_ending (findings.Sound n) = Done
finding_ending (findings.Unsound n) = Unsound n

-- The line of a finding was written, and it is the ending; or the writer failed behind a prefix
-- of the line.
abbrev pub Announces : {O : Type 0} → Finding → Used O → Ending → Type 0
Announces finding out ending =
    (IsWritten out (finding_line finding) × (ending ≡ finding_ending finding))
    ⊎ (BrokeOff out (finding_line finding) × (ending ≡ WriteFault))

-- ---- a book that is judged while it is read

-- all that the device had to give, without a failure, is the text of a book of these entries
abbrev pub IsBookGiven : {B : Type 0} → ChineseWall → Used B → List Entry → Type 0
IsBookGiven wall book entries =
    (text : List ℕ) × GaveAll book text × (book_in wall text ≡ Ok entries)

-- No book was judged, and this is why. A line at fault is told of what the device gave until then,
-- whatever is behind it; one of more bytes than a line may have is told as one that is none.
abbrev pub IsNoneJudged : {B : Type 0} → ChineseWall → Used B → Ending → Type 0
IsNoneJudged wall book (BadBookLine n) =
    AuditsTo wall book (Err (audits.BadLine n)) ⊎ AuditsTo wall book (Err (audits.LongLine n))
IsNoneJudged wall book CutBook = AuditsTo wall book (Err audits.Cut)
IsNoneJudged wall book ReadFault = AuditsTo wall book (Err audits.Read)
IsNoneJudged wall book Exhausted = AuditsTo wall book (Err audits.TooMany)
IsNoneJudged wall book NoMemory = AuditsTo wall book (Err audits.NoMemory)
IsNoneJudged wall book ending = ⊥

-- the book was read to its end and judged, and its finding announced
pub record Checks {B O : Type 0}
    (wall : ChineseWall) (book : Used B) (out : Used O) (ending : Ending) : Type 0 where
  pub entries : List Entry
  pub read : IsBookGiven wall book entries
  pub finding : Finding
  pub found : IsFound wall entries finding
  pub announced : Announces finding out ending

-- how the audit of a book ends: none was judged, and nothing was written; or it was judged
abbrev pub Audits : {B O : Type 0} → ChineseWall → Used B → Used O → Ending → Type 0
Audits wall book out ending =
    (IsNoneJudged wall book ending × IsUntouched out) ⊎ Checks wall book out ending

-- how `audit` ends: there is no policy, and no other device was touched; or its book was audited
abbrev pub AuditEnds : {P B O : Type 0} → Used P → Used B → Used O → Ending → Type 0
AuditEnds policy book out ending =
    (IsNoPolicy policy ending × IsUntouched book × IsUntouched out)
    ⊎ ((wall : ChineseWall) × IsPolicyOf policy wall × Audits wall book out ending)
