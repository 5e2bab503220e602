-- How a report on a book ends.
use Rattle.std.specs.Prelude.{◌≡◌, ℕ, ◌⊎◌, List, Option, Some, None, Result, Ok, Err}
use Rattle.wall_policy.specs.Policy.{ChineseWall}
use Rattle.run_model.specs.declared.entry.Entry.{Entry}
use Rattle.run_model.specs.Books.{IsSound, IsFirstBad}
use Rattle.run_model.specs.PostLaws.{KeepsTheWall}
use Rattle.audit_book.specs.declared.check_fault.BookFault.{BookFault}
use Rattle.audit_book.specs.declared.check_fault.BookFault.TheVariants as checks
use Rattle.report_text.specs.Report.{IsReport}
use Rattle.report_page.specs.Page.{IsPage}
use Rattle.program_files.specs.declared.cause.Cause.{Cause}
use Rattle.hall_script.specs.Devices.{Used, IsUntouched, IsWritten, BrokeOff}
use Rattle.hall_script.specs.Scripts.{script_limit}
use Rattle.program_commands.specs.declared.audit.Finding.TheVariants as findings
use Rattle.program_commands.specs.declared.report.Reading.{Reading}
use Rattle.program_commands.specs.declared.ending.Ending.{Ending}
use Rattle.program_commands.specs.declared.ending.Ending.TheVariants.{NoMemory, WriteFault}
use Rattle.program_commands.specs.Endings.{WritesAll}
use Rattle.program_commands.specs.Unreading.{IsExplained}
use Rattle.program_commands.specs.Walls.{IsPolicyOf, IsNoPolicy}
use Rattle.program_commands.specs.Replaying.{IsUnkept}
use Rattle.program_commands.specs.Auditing.{book_limit, Announces, IsBookOf, IsNoBook}
use Rattle.program_commands.specs.Earlier.{EarlierBooks, IsWallAfter, IsBrokenTold}

-- ---- what is written

-- The text was written, and then the page; or the writer of the text failed behind a prefix of it,
-- and nothing of the page was written.
abbrev pub WritesBoth : {O W : Type 0} → (text page : List ℕ) → Used O → Used W → Ending → Type 0
WritesBoth text page out file ending =
    (BrokeOff out text × (ending ≡ WriteFault) × IsUntouched file)
    ⊎ (IsWritten out text × WritesAll page file ending)

-- the report was written, and, where one is asked for, the page of the same book behind it
abbrev pub WritesReport : {O W : Type 0}
    → ChineseWall → List Entry → (text : List ℕ) → Used O → Option (Used W) → Ending → Type 0
WritesReport wall entries text out None ending = WritesAll text out ending
WritesReport wall entries text out (Some file) ending =
    (page : List ℕ) × IsPage wall entries page × WritesBoth text page out file ending

-- the book is sound, keeps the wall, and its report was written
pub record IsReported {O W : Type 0} (wall : ChineseWall) (entries : List Entry) (out : Used O)
    (file : Option (Used W)) (ending : Ending) : Type 0 where
  pub sound : IsSound wall entries
  pub keeps : KeepsTheWall wall entries
  pub text : List ℕ
  pub report : IsReport wall entries text
  pub written : WritesReport wall entries text out file ending

-- How a report on these entries ends: they are reported on; or they are unsound, and told as their
-- audit would tell it; or memory ran out, and nothing was written. There is no page but of a
-- report.
abbrev pub ReportsEntries : {O W : Type 0}
    → ChineseWall → List Entry → Used O → Option (Used W) → Ending → Type 0
ReportsEntries wall entries out file ending =
    IsReported wall entries out file ending
    ⊎ ((n : ℕ) × IsFirstBad wall entries n × Announces (findings.Unsound n) out ending
    × IsUnkept file)
    ⊎ ((ending ≡ NoMemory) × IsUntouched out × IsUnkept file)

-- ---- what is read

-- There is no policy after the earlier books, and this is why, as people are told: a file that was
-- not read by its path and the cause that its reader tells.
abbrev pub IsNoWallTold : {P D : Type 0} → (path : List ℕ) → Option Cause → Used P
    → (D → Option Cause) → EarlierBooks D → Ending → Type 0
IsNoWallTold path cause policy causes earlier ending =
    ((plain : Ending) × IsNoPolicy policy plain × IsExplained plain path cause script_limit ending)
    ⊎ ((first : ChineseWall) × IsPolicyOf policy first × IsBrokenTold first causes earlier ending)

-- no book was read, and this is why, as people are told
abbrev pub IsNoBookTold : {B : Type 0}
    → ChineseWall → (path : List ℕ) → Option Cause → Used B → Ending → Type 0
IsNoBookTold wall path cause book ending =
    (plain : Ending) × IsNoBook wall book plain × IsExplained plain path cause book_limit ending

-- there is no policy after the earlier books, and the book was not touched; or no book was read
-- under it
abbrev pub IsNoReading : {P D B : Type 0} → (policy_path : List ℕ) → Option Cause → Used P
    → (D → Option Cause) → EarlierBooks D → (path : List ℕ) → Option Cause → Used B → Ending
    → Type 0
IsNoReading policy_path policy_cause policy causes earlier path cause book ending =
    (IsNoWallTold policy_path policy_cause policy causes earlier ending × IsUntouched book)
    ⊎ ((wall : ChineseWall) × IsWallAfter policy earlier wall
    × IsNoBookTold wall path cause book ending)

-- ---- the command

-- How `report` ends: there is no policy after the earlier books, or no book, and nothing was
-- written; or its book was reported on under that policy.
abbrev pub ReportEnds : {P D B O W : Type 0} → (policy_path : List ℕ) → Option Cause → Used P
    → (D → Option Cause) → EarlierBooks D → (path : List ℕ) → Option Cause → Used B → Used O
    → Option (Used W) → Ending → Type 0
ReportEnds policy_path policy_cause policy causes earlier path cause book out file ending =
    (IsNoReading policy_path policy_cause policy causes earlier path cause book ending
    × IsUntouched out × IsUnkept file)
    ⊎ ((wall : ChineseWall) × IsWallAfter policy earlier wall × ((entries : List Entry)
    × IsBookOf wall book entries × ReportsEntries wall entries out file ending))

-- ---- words of private contracts

-- a fault of the check of a book was told
abbrev pub TellsFault : {O : Type 0} → BookFault → Used O → Ending → Type 0
TellsFault (checks.BadEntry n) out ending = Announces (findings.Unsound n) out ending
TellsFault checks.NoMemory out ending = (ending ≡ NoMemory) × IsUntouched out

-- the book that was read was reported on; or none was read, nothing was written, and it ended so
abbrev pub ReportsIfRead : {O W : Type 0}
    → Result Reading Ending → Used O → Option (Used W) → Ending → Type 0
ReportsIfRead (Ok reading) out file ending =
    ReportsEntries reading.wall reading.entries.list out file ending
ReportsIfRead (Err before) out file ending =
    (ending ≡ before) × IsUntouched out × IsUnkept file
