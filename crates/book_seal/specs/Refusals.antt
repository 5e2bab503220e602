-- Why a text has no seal. It is refused as its audit would refuse it, but for what is not finished
-- of it. (Own rules.)
use Rattle.std.specs.Prelude.{◌≡◌, ◌⊎◌, ℕ, ◌≤◌, List, length, Ok, Err, IsOk}
use Rattle.wall_policy.specs.Policy.{ChineseWall}
use Rattle.run_model.specs.declared.entry.Entry.{Entry}
use Rattle.run_model.specs.Books.{IsSound, IsFirstBad}
use Rattle.audit_book.specs.declared.fault.ReadFault.TheVariants as texts
use Rattle.audit_book.specs.Reading.{book_in}
use Rattle.book_seal.specs.declared.fault.SealFault.{SealFault}
use Rattle.book_seal.specs.declared.fault.SealFault.TheVariants.{BadLine, BadEntry, NoMemory}
use Rattle.book_seal.specs.Seals.{finished, finished_entries, Starts}

-- some text that starts with the finished lines is read as a sound book
pub record StartsSoundly (wall : ChineseWall) (text : List ℕ) : Type 0 where
  pub whole : List ℕ
  pub entries : List Entry
  pub read : book_in wall whole ≡ Ok entries
  pub sound : IsSound wall entries
  pub prefix : Starts (finished text) whole

-- the line of this number is the first finished one that should not stand there
abbrev pub HasBadLine : ChineseWall → (text : List ℕ) → (number : ℕ) → Type 0
HasBadLine wall text number = book_in wall (finished text) ≡ Err (texts.BadLine number)

-- Each finished line may stand where it does, and the entry of this number is the first bad one.
-- One that is missing behind them all is missed only where the end stands there.
pub record HasBadEntry (wall : ChineseWall) (text : List ℕ) (number : ℕ) : Type 0 where
  pub lines : (n : ℕ) → ¬ (HasBadLine wall text n)
  pub bad : IsFirstBad wall (finished_entries wall text) number
  pub there :
      (number ≤ length (finished_entries wall text)) ⊎ IsOk (book_in wall (finished text))

-- what a fault says; memory ran out only where each finished line may stand where it does
abbrev pub IsFaultOf : ChineseWall → (text : List ℕ) → SealFault → Type 0
IsFaultOf wall text (BadLine n) = HasBadLine wall text n
IsFaultOf wall text (BadEntry n) = HasBadEntry wall text n
IsFaultOf wall text NoMemory = (n : ℕ) → ¬ (HasBadLine wall text n)
