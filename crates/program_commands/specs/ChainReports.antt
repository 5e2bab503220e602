-- How a report on the last run of a chain ends: that run is read again as an audit of the chain
-- reads it, and its book is reported on under the policy that it was under. Behind that the report
-- tells what each earlier run gave, so each of these is read again with its book in memory.
use Rattle.std.specs.Prelude.{◌≡◌, ◌≢◌, ◌⊎◌, ◌+◌, ◌^◌, ◌≤◌, ℕ, List, [], ◌∷◌, ◌++◌, length, Option}
use Rattle.std.specs.Prelude.{Some, None, IsSome, Err, reverse}
use Rattle.wall_labels.specs.declared.memory.MemorySource.{MemorySource}
use Rattle.wall_labels.specs.Fuses.{failures_of}
use Rattle.wall_policy.specs.Policy.{ChineseWall}
use Rattle.run_model.specs.declared.entry.Entry.{Entry}
use Rattle.run_model.specs.Books.{IsSound, posts_in}
use Rattle.run_model.specs.Chains.{Link, IsPolicyAfter}
use Rattle.run_model.specs.PostLaws.{KeepsTheWall}
use Rattle.hall_script.specs.Devices.{Used, used, IsUntouched, NeverFailed, FailedOnce, IsRead}
use Rattle.hall_script.specs.declared.device.DeviceFault.{DeviceFault}
use Rattle.hall_script.specs.declared.device.DeviceFault.TheVariants as devices
use Rattle.book_stream.specs.declared.fault.AuditFault.TheVariants as audits
use Rattle.book_stream.specs.Audits.{AuditsTo}
use Rattle.chain_file.specs.declared.run.Run.{Run}
use Rattle.chain_file.specs.Text.{Chain}
use Rattle.chain_runs.specs.declared.fault.RunFault.{RunFault}
use Rattle.chain_runs.specs.declared.fault.RunFault.TheVariants.{BadBook, OtherBook, NoMemory}
use Rattle.chain_runs.specs.declared.fault.RunFault.TheVariants.{TooMany}
use Rattle.chain_runs.specs.declared.runs.Past.{Past}
use Rattle.chain_runs.specs.declared.runs.Broken.{Broken}
use Rattle.chain_runs.specs.Runs.{IsBegunUnder, SaysBook}
use Rattle.chain_runs.specs.Faults.{IsNotBegun, IsOther}
use Rattle.chain_runs.specs.Chains.{IsPast, HasRead, IsNotRead, Reading, reading}
use Rattle.report_text.specs.Report.{IsReport}
use Rattle.report_text.specs.Given.{IsGiven}
use Rattle.program_commands.specs.declared.ending.Ending.{Ending}
use Rattle.program_commands.specs.declared.ending.Ending.TheVariants as endings
use Rattle.program_commands.specs.Endings.{IsTold, EndsSo}
use Rattle.program_commands.specs.Auditing.{book_limit}
use Rattle.program_commands.specs.Replaying.{IsUnkept}
use Rattle.program_commands.specs.Reporting.{WritesReport}
use Rattle.program_commands.specs.ChainGiven.{given_section, IsLong, IsGivenBy, AreGiven}
use Rattle.program_commands.specs.ChainLines.{broken_line, broken_status, open_line, without_run}
use Rattle.program_commands.specs.ChainWalls.{GoesOnAfter}

-- ---- the text of its book

-- a reader of bytes at hand, before and after its use
abbrev pub at_hand : (old new : MemorySource) → Used MemorySource
at_hand old new = used (λ s. failures_of s.fuse) (λ s. Some s.rest.now) old new

-- What is wrong with this text, read again from memory: its audit finds this fault, or it is a
-- sound book of another digest. Out of memory says nothing.
abbrev pub IsNoTextOf : ChineseWall → (digest text : List ℕ) → RunFault → Type 0
IsNoTextOf wall digest text (BadBook fault) = (old new : MemorySource) × (old.rest.now ≡ text)
    × AuditsTo wall (at_hand old new) (Err fault) × (fault ≢ audits.NoMemory)
IsNoTextOf wall digest text OtherBook = (old new : MemorySource) × (old.rest.now ≡ text)
    × IsOther wall (at_hand old new) digest
IsNoTextOf wall digest text NoMemory = Unit {0}
IsNoTextOf wall digest text fault = ⊥

-- The reader of the book failed, or the book was read whole and is not the one of the chain; or
-- memory ran out, and the reader did not fail.
abbrev pub IsNoBookOf : {B : Type 0} → ChineseWall → Used B → (digest : List ℕ) → RunFault → Type 0
IsNoBookOf wall book digest fault =
    ((fault ≡ BadBook audits.Read) × FailedOnce book)
    ⊎ ((text : List ℕ) × IsRead book book_limit text × IsNoTextOf wall digest text fault)
    ⊎ ((fault ≡ NoMemory) × NeverFailed book)

-- ---- what is written

-- The book is sound, keeps the wall, and its report was written, with what earlier runs gave behind
-- it; the page is of the book alone.
pub record IsReportedBehind {O W : Type 0} (given : List ℕ) (wall : ChineseWall)
    (entries : List Entry) (out : Used O) (page : Option (Used W)) (ending : Ending)
    : Type 0 where
  pub sound : IsSound wall entries
  pub keeps : KeepsTheWall wall entries
  pub text : List ℕ
  pub report : IsReport wall entries text
  pub written : WritesReport wall entries (text ++ given_section given) out page ending

-- so it was reported on; or memory ran out, and nothing was written
abbrev pub ReportsBehind : {O W : Type 0} → (given : List ℕ) → ChineseWall → List Entry → Used O →
    Option (Used W) → Ending → Type 0
ReportsBehind given wall entries out page ending =
    IsReportedBehind given wall entries out page ending
    ⊎ ((ending ≡ endings.NoMemory) × IsUntouched out × IsUnkept page)

-- ---- the run

-- its policy file gives no policy, and the book was not looked at; or its book does not stand
abbrev pub IsNoRun : {P B : Type 0} → (after : Option ChineseWall) → Run → Used P → Used B →
    RunFault → Type 0
IsNoRun after run policy book fault =
    (IsNotBegun after run.begun policy fault × IsUntouched book)
    ⊎ ((wall : ChineseWall) × IsBegunUnder after run.begun policy wall
    × IsNoBookOf wall book run.book_digest fault)

-- it has a policy, and its book is too long to be read whole
abbrev pub HasTooLong : {P B : Type 0} → (after : Option ChineseWall) → Run → Used P → Used B →
    Type 0
HasTooLong after run policy book =
    (wall : ChineseWall) × IsBegunUnder after run.begun policy wall × IsLong book

module _ {D : Type 0} (fails : D → ℕ) (left : D → Option (List ℕ))
    (is_at : D → List ℕ → Type 0) where
  -- The run was read from the files at its paths, behind those before it: this is the policy that
  -- it was under, and these are the entries of its book, which has the digest of the chain and is
  -- sound.
  pub record IsReadAgain (past : Past) (run : Run) (wall : ChineseWall) (entries : List Entry)
      : Type 0 where
    pub policy : Reading fails left is_at run.begun.policy
    pub under : IsBegunUnder past.policy run.begun (reading fails left is_at policy) wall
    pub book : Reading fails left is_at run.begun.book
    pub says : SaysBook wall (reading fails left is_at book) run.book_digest entries
    pub sound : IsSound wall entries

  -- it was not, though its book is not too long for that, and this is why
  abbrev pub IsNotReadAgain : Past → Run → RunFault → Type 0
  IsNotReadAgain past run fault = (policy : Reading fails left is_at run.begun.policy)
      × (book : Reading fails left is_at run.begun.book)
      × IsNoRun past.policy run (reading fails left is_at policy) (reading fails left is_at book)
      fault

  -- it was not, since its book is too long
  abbrev pub IsLongRun : Past → Run → Type 0
  IsLongRun past run = (policy : Reading fails left is_at run.begun.policy)
      × (book : Reading fails left is_at run.begun.book)
      × HasTooLong past.policy run (reading fails left is_at policy) (reading fails left is_at book)

  -- why a report can't be on the run: it was not read again, or its book is too long, which is told
  -- as a read fault
  abbrev pub IsNoLast : Past → Run → RunFault → Type 0
  IsNoLast past run fault = IsNotReadAgain past run fault
      ⊎ ((fault ≡ BadBook audits.Read) × IsLongRun past run)

  -- All runs have ended. Those before the last stand, and these lines tell what they gave; the last
  -- was read behind them. Behind the books before it, and under its policy, nobody will ever have
  -- held two rivals.
  pub record IsLastEnded (file : Chain) (given : List ℕ) (wall : ChineseWall) (entries : List Entry)
      : Type 0 where
    pub none : file.under_way ≡ None
    pub before : List Run
    pub run : Run
    pub are : file.ended ≡ before ++ (run ∷ [])
    pub links : List Link
    pub past : Past
    pub stand : IsPast fails left is_at before links past
    pub gave : AreGiven fails left is_at (reverse before) links given
    pub last : IsReadAgain past run wall entries
    pub goes_on : GoesOnAfter links wall

  -- One of these runs does not stand, or was not read again behind those before it, which do.
  -- (Where its book is too long, it is read in pieces, as an audit reads it.)
  pub record IsNotTold (runs : List Run) (broken : Broken) : Type 0 where
    pub before : List Run
    pub one : Run
    pub behind : List Run
    pub are : before ++ (one ∷ behind) ≡ runs
    pub number : broken.number ≡ length before + 1
    pub links : List Link
    pub past : Past
    pub stand : IsPast fails left is_at before links past
    pub after : broken.after ≡ past.policy
    pub fault : IsNotRead fails left is_at past one broken.fault
        ⊎ IsNotReadAgain past one broken.fault

  -- so it is with one before the last, and why is told
  abbrev pub TellsBadEarlier : {E : Type 0} → List Run → Used E → (status : ℕ) → Type 0
  TellsBadEarlier before err status = (broken : Broken) × IsNotTold before broken
      × (status ≡ broken_status broken.fault) × IsTold err (broken_line broken)

  -- the last run does not stand behind those before it, and why is told
  pub record TellsBadLast {E : Type 0} (before : List Run) (run : Run) (err : Used E) (status : ℕ)
      : Type 0 where
    pub links : List Link
    pub past : Past
    pub stand : IsPast fails left is_at before links past
    pub broken : Broken
    pub number : broken.number ≡ length before + 1
    pub after : broken.after ≡ past.policy
    pub why : IsNoLast past run broken.fault
    pub status_is : status ≡ broken_status broken.fault
    pub told : IsTold err (broken_line broken)

  -- The last run has not ended; or there is none; or one of those before the last does not stand,
  -- or the last does not.
  abbrev pub HasNoLastEnded : {E : Type 0} → Chain → Used E → (status : ℕ) → Type 0
  HasNoLastEnded file err status =
      (IsSome file.under_way × (status ≡ 2) × IsTold err (open_line (length file.ended + 1)))
      ⊎ ((file.under_way ≡ None) × (file.ended ≡ []) × (status ≡ 2) × IsTold err without_run)
      ⊎ ((before : List Run) × (run : Run) × (file.ended ≡ before ++ (run ∷ []))
      × (TellsBadEarlier before err status ⊎ TellsBadLast before run err status))

  -- How the report ends: there is no such run, which is told, and nothing else was written; or its
  -- book was reported on.
  abbrev pub ChainReported : {O W E : Type 0} → Chain → Used O → Option (Used W) → Used E →
      (status : ℕ) → Type 0
  ChainReported file out page err status =
      (HasNoLastEnded file err status × IsUntouched out × IsUnkept page)
      ⊎ ((given : List ℕ) × (wall : ChineseWall) × (entries : List Entry)
      × IsLastEnded file given wall entries
      × EndsSo (ReportsBehind given wall entries out page) err status)

-- ---- words of private contracts

-- this text, read again from memory, is that of a sound book of these entries, of this digest
abbrev pub IsTextOf : ChineseWall → (digest text : List ℕ) → Type 0
IsTextOf wall digest text = (entries : List Entry) × (old new : MemorySource)
    × (old.rest.now ≡ text) × SaysBook wall (at_hand old new) digest entries
    × IsSound wall entries

-- it is the text of the report on a sound book, with what earlier runs gave behind it
abbrev pub IsTextBehind : (given : List ℕ) → ChineseWall → List Entry → (text : List ℕ) → Type 0
IsTextBehind given wall entries text = (report : List ℕ) × IsSound wall entries
    × KeepsTheWall wall entries × IsReport wall entries report
    × (text ≡ report ++ given_section given)

-- a book was not read whole, and is not too long for that
abbrev pub IsNoWhole : {B : Type 0} → Used B → DeviceFault → Type 0
IsNoWhole book devices.Read = FailedOnce book
IsNoWhole book devices.NoMemory = NeverFailed book

-- behind the lines that were there stand those of what this run gave
abbrev pub HasTold : ChineseWall → List Entry → (number : ℕ) → (was is : List ℕ) → Type 0
HasTold wall entries number was is =
    (own : List ℕ) × IsGiven wall entries number own × (is ≡ was ++ own)

-- what is known behind a book under this policy, where the books before have so many entries
abbrev pub GoesOnFrom : ChineseWall → List Entry → (before : ℕ) → Past → Type 0
GoesOnFrom wall entries before past = (now : ChineseWall)
    × IsPolicyAfter wall (posts_in entries) now × (past.policy ≡ Some now)
    × (past.entries ≡ before + length entries)

-- with them there are 2^64 entries or more; or memory ran out
abbrev pub LacksRoom : ChineseWall → List Entry → (before : ℕ) → RunFault → Type 0
LacksRoom wall entries before TooMany = (now : ChineseWall)
    × IsPolicyAfter wall (posts_in entries) now × (2 ^ 64 ≤ before + length entries)
LacksRoom wall entries before NoMemory = Unit {0}
LacksRoom wall entries before fault = ⊥

module _ {D : Type 0} (fails : D → ℕ) (left : D → Option (List ℕ))
    (is_at : D → List ℕ → Type 0) where
  -- the run of this number was read behind others, and told behind what they gave
  abbrev pub IsToldNext : (old : Past) → Run → (number : ℕ) → (was is : List ℕ) → (new : Past) →
      Type 0
  IsToldNext old run number was is new = (read : HasRead fails left is_at old run new)
      × (own : List ℕ) × IsGivenBy fails left is_at run number read.1 own × (is ≡ was ++ own)

  -- it was not
  abbrev pub IsNotToldNext : Past → Run → RunFault → Type 0
  IsNotToldNext past run fault =
      IsNotRead fails left is_at past run fault ⊎ IsNotReadAgain fails left is_at past run fault
