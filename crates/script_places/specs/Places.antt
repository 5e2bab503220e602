-- Where the fault of a line stands. (Own rule.) What a line says, and which fault it has, is said
-- by the grammar of lines, and by the number of the policy's processes.
use Rattle.std.specs.Prelude.{◌≡◌, ℕ, ◌+◌, ◌<◌, ◌⊎◌, true, false, List, ◌++◌, length, take}
use Rattle.std.specs.Prelude.{slice_get, Some, Err, IsOk, sum_by}
use Rattle.std.specs.List.{list_all}
use Rattle.wall_policy.specs.Policy.{ChineseWall}
use Rattle.coll_text.specs.declared.fault.LineFault.{LineFault}
use Rattle.coll_text.specs.declared.fault.LineFault.TheVariants.{BadShape}
use Rattle.coll_text.specs.Numbers.{Word}
use Rattle.coll_text.specs.Reading.{parts, is_printable}
use Rattle.hall_script.specs.Lines.{call_of, answer_to}

-- These words have the fault already: whatever words stand behind them, the answer is this fault.
abbrev pub HaveFault : (datasets ws : List Word) → LineFault → Type 0
HaveFault datasets ws fault = (rest : List Word) → call_of datasets (ws ++ rest) ≡ Err fault

-- The fault stands at word i, counted from 0: the words up to that one have it, and those before
-- it do not.
pub record StandsAt (datasets ws : List Word) (fault : LineFault) (i : ℕ) : Type 0 where
  pub within : i < length ws
  pub up_to : HaveFault datasets (take (i + 1) ws) fault
  pub not_before : ¬ (HaveFault datasets (take i ws) fault)

-- It stands behind the last word: all words do not have it, were there more of them. What has it is
-- that the line ends there.
pub record StandsBehind (datasets ws : List Word) (fault : LineFault) : Type 0 where
  pub answer : call_of datasets ws ≡ Err fault
  pub not_before : ¬ (HaveFault datasets ws fault)

-- the column, counted from 1, at which word i begins: words stand behind each other with one space
-- between two
abbrev pub column_of : List Word → (i : ℕ) → ℕ
column_of ws i = 1 + sum_by (λ w. length w + 1) (take i ws)

-- the first byte of a line that is not printable stands in this column
pub record IsUnprintable (line : List ℕ) (column : ℕ) : Type 0 where
  pub before : ℕ
  pub byte : ℕ
  pub place : column ≡ before + 1
  pub there : slice_get line before ≡ Some byte
  pub unprintable : is_printable byte ≡ false
  pub first : list_all is_printable (take before line) ≡ true

-- the fault of a line of printable bytes stands in this column: at a word, or behind the line
abbrev pub IsWordColumn : (datasets : List Word) → (line : List ℕ) → LineFault → (column : ℕ) →
    Type 0
IsWordColumn datasets line fault column =
    ((i : ℕ) × StandsAt datasets (parts 32 line) fault i × (column ≡ column_of (parts 32 line) i))
    ⊎ (StandsBehind datasets (parts 32 line) fault × (column ≡ length line + 1))

-- The fault of a line that is no call stands in this column. A byte that is not printable comes
-- before all else.
abbrev pub IsColumn : (datasets : List Word) → (line : List ℕ) → LineFault → (column : ℕ) → Type 0
IsColumn datasets line fault column =
    ((fault ≡ BadShape) × IsUnprintable line column)
    ⊎ ((list_all is_printable line ≡ true) × IsWordColumn datasets line fault column)

-- the column of the word behind the verb, which names the process
abbrev pub process_column : (line : List ℕ) → ℕ
process_column line = column_of (parts 32 line) 1

-- The fault of a line stands in this column: of one that is no call, in its place; of a call, which
-- has one only where the policy lacks its process, at the process.
abbrev pub IsFaultColumn : ChineseWall → (line : List ℕ) → LineFault → (column : ℕ) → Type 0
IsFaultColumn wall line fault column =
    ((answer_to wall.dataset_names line ≡ Err fault)
    × IsColumn wall.dataset_names line fault column)
    ⊎ (IsOk (answer_to wall.dataset_names line) × (column ≡ process_column line))
