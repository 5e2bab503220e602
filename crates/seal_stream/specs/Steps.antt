-- How far a seal has come that is written while its book is read: words of private contracts.
use Rattle.std.specs.Prelude.{◌≡◌, ℕ, ◌+◌, ◌<◌, ◌≤◌, ◌^◌, Bool, true, false, List, [], ◌∷◌, ◌++◌}
use Rattle.std.specs.Prelude.{length, Option, Some, None, Result, Ok, Err, filter_map}
use Rattle.std.specs.List.{AllByRecursion, join_with_byte}
use Rattle.wall_labels.specs.Known.{AppendsPrefix}
use Rattle.wall_policy.specs.Policy.{ChineseWall}
use Rattle.run_model.specs.declared.entry.Entry.{Entry}
use Rattle.run_model.specs.Books.{IsSound, IsFirstBad}
use Rattle.coll_text.specs.Numbers.{Word}
use Rattle.coll_text.specs.Writing.{Moves}
use Rattle.hall_script.specs.Devices.{Used}
use Rattle.std.specs.Io.KnownBytes.{Appends}
use Rattle.audit_book.specs.declared.audit.Audit.{Audit}
use Rattle.audit_book.specs.declared.check_fault.BookFault.{BookFault}
use Rattle.audit_book.specs.declared.check_fault.BookFault.TheVariants as faults
use Rattle.audit_book.specs.declared.fault.ReadFault.TheVariants as texts
use Rattle.audit_book.specs.Audits.{HasSeen}
use Rattle.audit_book.specs.Dues.{IsFaultWithin}
use Rattle.audit_book.specs.Faults.{IsLine}
use Rattle.audit_book.specs.Lines.{line_at}
use Rattle.audit_book.specs.Reading.{lines_in}
use Rattle.audit_book.specs.Text.{end_words}
use Rattle.book_seal.specs.Seals.{entry_told, finished_lines, IsSealOf}
use Rattle.book_seal.specs.Refusals.{HasBadEntry}
use Rattle.book_stream.specs.Audits.{Gave, GaveAll}
use Rattle.book_stream.specs.Cuts.{line_limit}
use Rattle.book_stream.specs.Readings.{SayEntries, SayBook, AreTooMany}
use Rattle.coll_text.specs.Reading.{parts}
use Rattle.seal_stream.specs.declared.line.Unfinished.{Unfinished}
use Rattle.seal_stream.specs.declared.reading.Reading.{Reading}
use Rattle.seal_stream.specs.declared.reading.Stage.{Stage}
use Rattle.seal_stream.specs.declared.reading.Stage.TheVariants as stages
use Rattle.seal_stream.specs.declared.stop.SealStop.{SealStop}
use Rattle.seal_stream.specs.declared.stop.SealStop.TheVariants.{BadLine, LongLine, BadEntry}
use Rattle.seal_stream.specs.declared.stop.SealStop.TheVariants.{TooMany, Read, Write, NoMemory}
use Rattle.seal_stream.specs.declared.writer.Writer.{Writer}
use Rattle.seal_stream.specs.Seals.{lines_text, IsReasonIn}

-- ---- the line that is not finished

-- what is kept of the line so far: its bytes, or that they are above the limit
pub record Holds (kept : Unfinished) (line : List ℕ) : Type 0 where
  pub short : kept.is_long ≡ false → (kept.bytes.items ≡ line) × (length line ≤ line_limit)
  pub long : kept.is_long ≡ true → line_limit < length line

-- ---- the finished lines

-- none of them has a line feed
abbrev pub AreLines : List Word → Type 0
AreLines lines = AllByRecursion IsLine lines

-- the entries that they tell
abbrev pub told_by : ChineseWall → List Word → List Entry
told_by wall lines = filter_map (λ line. entry_told (line_at wall line)) lines

-- what they say, at each stage
abbrev pub SayAt : ChineseWall → Stage → List Word → List Entry → Type 0
SayAt wall stages.Header lines entries = (lines ≡ []) × (entries ≡ [])
SayAt wall stages.Entry lines entries = SayEntries wall lines entries
SayAt wall stages.Ended lines entries = SayBook wall lines entries

-- and how many they are with the entries
abbrev pub lines_at : Stage → (entries : ℕ) → ℕ
lines_at stages.Header entries = 0
lines_at stages.Entry entries = entries + 1
lines_at stages.Ended entries = entries + 2

-- All lines are kept but the end, which the seal puts behind them at last; then the entries are
-- sound.
abbrev pub AreKeptAt : ChineseWall → Stage → (lines kept : List Word) → List Entry → Type 0
AreKeptAt wall stages.Header lines kept entries = kept ≡ lines
AreKeptAt wall stages.Entry lines kept entries = kept ≡ lines
AreKeptAt wall stages.Ended lines kept entries = SayEntries wall kept entries × IsSound wall entries
    × (lines ≡ kept ++ join_with_byte 32 (end_words (length entries)) ∷ [])

-- the audit has gone through them, and all lines are kept
pub record IsUnspoilt (wall : ChineseWall) (stage : Stage) (audit : Audit) (lines kept : List Word)
    (entries : List Entry) : Type 0 where
  pub all : AreKeptAt wall stage lines kept entries
  pub seen : HasSeen wall audit entries

-- the fault of the entries: where the end stands behind them, one may be missing before it
abbrev pub IsWrongAt : ChineseWall → Stage → List Entry → BookFault → Type 0
IsWrongAt wall stages.Header entries fault = IsFaultWithin wall entries fault
IsWrongAt wall stages.Entry entries fault = IsFaultWithin wall entries fault
IsWrongAt wall stages.Ended entries (faults.BadEntry n) = IsFirstBad wall entries n
IsWrongAt wall stages.Ended entries faults.NoMemory = Unit {0}

-- the audit has gone through the entries of the lines that are kept, and goes no further
pub record IsSpoilt (wall : ChineseWall) (stage : Stage) (audit : Audit) (fault : BookFault)
    (lines kept : List Word) (entries : List Entry) : Type 0 where
  pub front : List Entry
  pub more : List Word
  pub whole : lines ≡ kept ++ more
  pub say : SayEntries wall kept front
  pub few : length front ≤ 2 ^ 62
  pub seen : HasSeen wall audit front
  pub wrong : IsWrongAt wall stage entries fault

abbrev pub IsJudged : ChineseWall → Stage → Audit → Option BookFault → (lines kept : List Word) →
    List Entry → Type 0
IsJudged wall stage audit None lines kept entries = IsUnspoilt wall stage audit lines kept entries
IsJudged wall stage audit (Some fault) lines kept entries =
    IsSpoilt wall stage audit fault lines kept entries

-- it stands behind these finished lines, of which these are kept
pub record HasJudged (wall : ChineseWall) (reading : Reading) (lines kept : List Word)
    : Type 0 where
  pub entries : List Entry
  pub number : reading.entries ≡ length entries
  pub few : length entries ≤ 2 ^ 62
  pub say : SayAt wall reading.stage lines entries
  pub count : length lines ≡ lines_at reading.stage (length entries)
  pub told : told_by wall lines ≡ entries
  pub judged : IsJudged wall reading.stage reading.audit reading.fault lines kept entries

abbrev pub IsReading : ChineseWall → Reading → Type 0
IsReading wall reading = (lines kept : List Word) × HasJudged wall reading lines kept

-- and none of the lines has a line feed
abbrev pub IsWholeReading : ChineseWall → Reading → Type 0
IsWholeReading wall reading =
    (lines kept : List Word) × AreLines lines × HasJudged wall reading lines kept

-- ---- a line more

abbrev pub kept_if : Bool → (kept : List Word) → Word → List Word
kept_if true kept line = kept ++ line ∷ []
kept_if false kept line = kept

-- what an audit says of an entry more
abbrev pub StepsTo : ChineseWall → Audit → Option BookFault → List Entry → Entry → Type 0
StepsTo wall audit None entries entry = HasSeen wall audit (entries ++ entry ∷ [])
StepsTo wall audit (Some fault) entries entry =
    HasSeen wall audit entries × IsFaultWithin wall (entries ++ entry ∷ []) fault

-- it took this line, and keeps it or not
abbrev pub GoesOn : ChineseWall → (old new : Reading) → Word → (is_kept : Bool) → Type 0
GoesOn wall old new line is_kept = (lines kept : List Word) → HasJudged wall old lines kept →
    HasJudged wall new (lines ++ line ∷ []) (kept_if is_kept kept line)

-- the line behind these is long, and they have no line at fault
pub record IsLongBehind (wall : ChineseWall) (lines : List Word) (line : Word) (number : ℕ)
    : Type 0 where
  pub place : number ≡ length lines + 1
  pub long : line_limit < length line
  pub good : (n : ℕ) → ¬ (lines_in wall (lines ++ [] ∷ []) ≡ Err (texts.BadLine n))

-- why the reader goes no further than this finished line behind these, whatever comes
abbrev pub IsBadBehind : ChineseWall → List Word → Word → SealStop → Type 0
IsBadBehind wall lines line (BadLine n) = (next : Word) (more : List Word) →
    lines_in wall (lines ++ line ∷ next ∷ more) ≡ Err (texts.BadLine n)
IsBadBehind wall lines line (LongLine n) = IsLongBehind wall lines line n
IsBadBehind wall lines line TooMany = AreTooMany wall lines
IsBadBehind wall lines line (BadEntry n) = ⊥
IsBadBehind wall lines line Read = ⊥
IsBadBehind wall lines line Write = ⊥
IsBadBehind wall lines line NoMemory = ⊥

-- it did not take the line, for this reason
abbrev pub StopsAt : ChineseWall → Reading → Word → SealStop → Type 0
StopsAt wall reading line stop = (lines kept : List Word) → HasJudged wall reading lines kept →
    IsBadBehind wall lines line stop

-- nor a long one
abbrev pub IsTooLong : ChineseWall → Reading → Word → SealStop → Type 0
IsTooLong wall reading line (LongLine n) = (lines kept : List Word) →
    HasJudged wall reading lines kept → IsLongBehind wall lines line n
IsTooLong wall reading line stop = ⊥

-- ---- a writer

-- its failures: one where it failed
abbrev pub IsFailing : SealStop → (old new : ℕ) → Type 0
IsFailing Write old new = new ≡ old + 1
IsFailing stop old new = new ≡ old

-- the same of what was to be written: the writer failed, or memory ran out
abbrev pub IsUnwritten : SealStop → (old new : ℕ) → Type 0
IsUnwritten Write old new = new ≡ old + 1
IsUnwritten NoMemory old new = new ≡ old
IsUnwritten stop old new = ⊥

-- what is written of a line
abbrev pub line_if : Bool → Word → List ℕ
line_if true line = line ++ 10 ∷ []
line_if false line = []

-- It stands behind these finished lines, of which these are kept, and in this one. What is kept was
-- written, but for what is pending.
pub record StandsBehind (wall : ChineseWall) (writer : Writer) (before now : Option (List ℕ))
    (lines kept : List Word) (line : Word) : Type 0 where
  pub judged : HasJudged wall writer.reading lines kept
  pub holds : Holds writer.line line
  pub moved : Moves before now (lines_text kept) writer.pending.items

abbrev pub IsStanding : ChineseWall → Writer → (now : Option (List ℕ)) → Type 0
IsStanding wall writer now = (before : Option (List ℕ)) × (lines kept : List Word) × (line : Word)
    × StandsBehind wall writer before now lines kept line

-- a line of these is at fault, whatever comes, and finished or long; or it is not for a line
abbrev pub IsStopAmong : ChineseWall → List Word → SealStop → Type 0
IsStopAmong wall words Write = Unit {0}
IsStopAmong wall words NoMemory = Unit {0}
IsStopAmong wall words (LongLine n) = (lines : List Word) × (line : Word) × (more : List Word)
    × (words ≡ lines ++ line ∷ more) × IsLongBehind wall lines line n
IsStopAmong wall words stop = (lines : List Word) × (line next : Word) × (more : List Word)
    × (words ≡ lines ++ line ∷ next ∷ more) × IsBadBehind wall lines line stop

-- it goes no further in a text with these parts, and this is why; a prefix was written of the lines
-- that it keeps of those behind which it stands
pub record Stops (wall : ChineseWall) (writer : Writer) (before now : Option (List ℕ))
    (words : List Word) (stop : SealStop) : Type 0 where
  pub lines : List Word
  pub kept : List Word
  pub next : Word
  pub more : List Word
  pub front : words ≡ lines ++ next ∷ more
  pub judged : HasJudged wall writer.reading lines kept
  pub written : AppendsPrefix before now (lines_text kept)
  pub why : IsStopAmong wall words stop

-- it took the line that is finished, and stands in the next; or why not, whatever comes
abbrev pub TakesOne : ChineseWall → (old new : Writer) → (was now : Option (List ℕ)) →
    (next : Word) → Result (Unit {0}) SealStop → Type 0
TakesOne wall old new was now next (Ok x) =
    (before : Option (List ℕ)) (lines kept : List Word) (line : Word) →
    StandsBehind wall old before was lines kept line →
    (more : List Word) × StandsBehind wall new before now (lines ++ line ∷ []) more next
TakesOne wall old new was now next (Err stop) =
    (before : Option (List ℕ)) (lines kept : List Word) (line : Word) (more : List Word) →
    StandsBehind wall old before was lines kept line →
    Stops wall new before now (lines ++ line ∷ next ∷ more) stop

-- it took the finished lines of these, and stands in the last; or why not
abbrev pub TakesIn : ChineseWall → (new : Writer) → (before now : Option (List ℕ)) →
    (lines words : List Word) → Result (Unit {0}) SealStop → Type 0
TakesIn wall new before now lines words (Ok x) = (done kept : List Word) × (line : Word)
    × (words ≡ done ++ line ∷ []) × StandsBehind wall new before now (lines ++ done) kept line
TakesIn wall new before now lines words (Err stop) =
    Stops wall new before now (lines ++ words) stop

-- ---- a source that was read

-- it gave all of a text, and the writer stands in its last line
pub record HasReadAll {D : Type 0} (wall : ChineseWall) (d : Used D) (writer : Writer)
    (before now : Option (List ℕ)) : Type 0 where
  pub text : List ℕ
  pub lines : List Word
  pub kept : List Word
  pub line : Word
  pub gave : GaveAll d text
  pub so_far : Gave d text
  pub cut : parts 10 text ≡ lines ++ line ∷ []
  pub stands : StandsBehind wall writer before now lines kept line

-- it goes no further, and this is why; a prefix was written of the lines that it keeps
pub record HasStopped {D : Type 0} (wall : ChineseWall) (d : Used D) (writer : Writer)
    (before now : Option (List ℕ)) (stop : SealStop) : Type 0 where
  pub text : List ℕ
  pub lines : List Word
  pub kept : List Word
  pub more : List Word
  pub front : lines ++ more ≡ finished_lines text
  pub judged : HasJudged wall writer.reading lines kept
  pub written : AppendsPrefix before now (lines_text kept)
  pub reason : IsReasonIn wall text d stop

-- ---- the end of a text

-- the text has this seal, of so many entries
abbrev pub IsSealWith : ChineseWall → (text whole : List ℕ) → ℕ → Type 0
IsSealWith wall text whole number = (seal : IsSealOf wall text whole) × (number ≡ length seal.entries)

-- With what was put behind them the lines that are kept are the seal of any text that has the
-- lines.
abbrev pub Completes : ChineseWall → (lines kept : List Word) → (old new : List ℕ) → (number : ℕ) →
    Type 0
Completes wall lines kept old new number = (tail : List ℕ) × (new ≡ old ++ tail)
    × ((text : List ℕ) → finished_lines text ≡ lines →
    IsSealWith wall text (lines_text kept ++ tail) number)

abbrev pub CompletesBy : ChineseWall → Reading → (old new : List ℕ) → (number : ℕ) → Type 0
CompletesBy wall reading old new number = (lines kept : List Word) → AreLines lines →
    HasJudged wall reading lines kept → Completes wall lines kept old new number

-- how the seal of any text ends whose finished lines these are, of which these are kept
abbrev pub EndsAs : ChineseWall → (lines kept : List Word) → (before now : Option (List ℕ)) →
    Result ℕ SealStop → Type 0
EndsAs wall lines kept before now (Ok number) = (whole : List ℕ) × Appends before now whole
    × ((text : List ℕ) → finished_lines text ≡ lines → IsSealWith wall text whole number)
EndsAs wall lines kept before now (Err (BadEntry n)) = AppendsPrefix before now (lines_text kept)
    × ((text : List ℕ) → finished_lines text ≡ lines → HasBadEntry wall text n)
EndsAs wall lines kept before now (Err Write) = (whole : List ℕ) × AppendsPrefix before now whole
    × ((text : List ℕ) → finished_lines text ≡ lines → IsSealOf wall text whole)
EndsAs wall lines kept before now (Err NoMemory) = AppendsPrefix before now (lines_text kept)
EndsAs wall lines kept before now (Err stop) = ⊥

abbrev pub Finishes : ChineseWall → (old : Writer) → (was now : Option (List ℕ)) →
    Result ℕ SealStop → Type 0
Finishes wall old was now result = (before : Option (List ℕ)) (lines kept : List Word)
    (line : Word) → StandsBehind wall old before was lines kept line → AreLines lines →
    EndsAs wall lines kept before now result
