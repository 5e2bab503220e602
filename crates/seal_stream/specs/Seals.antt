-- What a seal that is written while its book is read comes to. (Own rules.)
use Rattle.std.specs.Prelude.{◌≡◌, ℕ, ◌+◌, ◌<◌, ◌⊎◌, List, [], ◌∷◌, ◌++◌, length, Err}
use Rattle.std.specs.List.{flat_map}
use Rattle.std.specs.Io.KnownBytes.{Consumes}
use Rattle.wall_policy.specs.Policy.{ChineseWall}
use Rattle.coll_text.specs.Numbers.{Word}
use Rattle.coll_text.specs.Reading.{parts}
use Rattle.hall_script.specs.Devices.{Used, FailedOnce, bytes_before, bytes_after}
use Rattle.hall_script.specs.Devices.{IsWritten, IsBegun, BrokeOff}
use Rattle.audit_book.specs.declared.fault.ReadFault.TheVariants.{Cut}
use Rattle.audit_book.specs.Reading.{book_in}
use Rattle.book_seal.specs.Seals.{finished_lines, IsSealOf}
use Rattle.book_seal.specs.CutBooks.{KeepsEachRun}
use Rattle.book_seal.specs.Refusals.{StartsSoundly, HasBadLine, HasBadEntry}
use Rattle.book_stream.specs.Audits.{Gave, GaveAll, HasTooMany}
use Rattle.book_stream.specs.Cuts.{line_limit}
use Rattle.seal_stream.specs.declared.stop.SealStop.{SealStop}
use Rattle.seal_stream.specs.declared.stop.SealStop.TheVariants.{BadLine, LongLine, BadEntry}
use Rattle.seal_stream.specs.declared.stop.SealStop.TheVariants.{TooMany, Read, Write, NoMemory}

-- ## a text that has a seal

-- The source gave all of a text without a failure. The seal of that text was written, which keeps
-- each run that the text may be left of; it has so many entries.
pub record IsSealedTo {B W : Type 0} (wall : ChineseWall) (book : Used B) (sealed : Used W)
    (number : ℕ) : Type 0 where
  pub text : List ℕ
  pub gave : GaveAll book text
  pub whole : List ℕ
  pub seal : IsSealOf wall text whole
  pub keeps : KeepsEachRun wall text whole
  pub number_is : number ≡ length seal.entries
  pub written : IsWritten sealed whole

-- ## why none was made

-- these lines, each with its line feed
abbrev pub lines_text : List Word → List ℕ
lines_text lines = flat_map (λ line. line ++ (10 ∷ [])) lines

-- its line of this number, finished or not, has more bytes than a line may have, and each line
-- before it may stand where it does
pub record HasLongLine (wall : ChineseWall) (text : List ℕ) (number : ℕ) : Type 0 where
  pub lines : List Word
  pub line : Word
  pub more : List Word
  pub cut : parts 10 text ≡ lines ++ line ∷ more
  pub place : number ≡ length lines + 1
  pub long : line_limit < length line
  pub good : (n : ℕ) → ¬ (HasBadLine wall (lines_text lines) n)

-- Why no seal was made where the source gave this text. A line at fault is so whatever comes behind
-- the text; no sound book begins with the finished lines then, whatever comes.
abbrev pub IsReasonIn : {B : Type 0}
    → ChineseWall → (text : List ℕ) → Used B → SealStop → Type 0
IsReasonIn wall text book (BadLine n) = Gave book text × ((rest : List ℕ) →
    HasBadLine wall (text ++ rest) n × ¬ (StartsSoundly wall (text ++ rest)))
IsReasonIn wall text book (BadEntry n) = GaveAll book text × HasBadEntry wall text n
    × ((rest : List ℕ) → ¬ (StartsSoundly wall (text ++ rest)))
IsReasonIn wall text book (LongLine n) = Gave book text × HasLongLine wall text n
IsReasonIn wall text book TooMany = Gave book text × HasTooMany wall text
IsReasonIn wall text book Read = FailedOnce book
    × Consumes (bytes_before book) (bytes_after book) text × ((n : ℕ) → ¬ (HasBadLine wall text n))
IsReasonIn wall text book Write = Gave book text
IsReasonIn wall text book NoMemory = Gave book text

-- ## what was written then

-- So much was written of the finished lines of the text: of the first of them, with which some
-- sound book begins, and without an end. Nothing else was.
pub record HasKept (wall : ChineseWall) (text : List ℕ) (wrote : List ℕ → Type 0) : Type 0 where
  pub lines : List Word
  pub more : List Word
  pub front : lines ++ more ≡ finished_lines text
  pub begins : StartsSoundly wall (lines_text lines)
  pub cut : book_in wall (lines_text lines) ≡ Err Cut
  pub kept : wrote (lines_text lines)

-- the source gave all of the text, and so much of its seal was written
pub record HasKeptSeal {B : Type 0} (wall : ChineseWall) (text : List ℕ) (book : Used B)
    (wrote : List ℕ → Type 0) : Type 0 where
  pub gave : GaveAll book text
  pub whole : List ℕ
  pub seal : IsSealOf wall text whole
  pub keeps : KeepsEachRun wall text whole
  pub kept : wrote whole

-- a prefix of lines was written without a failure; or the writer failed behind a prefix of lines,
-- or of the seal
abbrev pub IsKept : {B W : Type 0}
    → ChineseWall → (text : List ℕ) → Used B → Used W → SealStop → Type 0
IsKept wall text book sealed Write =
    HasKept wall text (BrokeOff sealed) ⊎ HasKeptSeal wall text book (BrokeOff sealed)
IsKept wall text book sealed stop = HasKept wall text (IsBegun sealed)

-- no seal was made, for this reason
pub record IsStopped {B W : Type 0} (wall : ChineseWall) (book : Used B) (sealed : Used W)
    (stop : SealStop) : Type 0 where
  pub text : List ℕ
  pub reason : IsReasonIn wall text book stop
  pub written : IsKept wall text book sealed stop
