-- The lines of a script's faults. (Own format.)
use Rattle.std.specs.Prelude.{◌≡◌, ℕ, ◌-◌, List, [], ◌∷◌, Option, Some, None, slice_get}
use Rattle.std.specs.Prelude.{slice_index_or}
use Rattle.std.specs.List.{flat_map}
use Rattle.coll_text.specs.declared.fault.LineFault.{LineFault}
use Rattle.wall_policy.specs.Policy.{ChineseWall}
use Rattle.coll_text.specs.Reading.{parts}
use Rattle.hall_script.specs.Scripts.{trimmed}
use Rattle.script_places.specs.declared.found.Found.{Found}
use Rattle.script_places.specs.Found.{HasFault, AreFaults}
use Rattle.check_text.specs.declared.faults.ScriptFaults.{ScriptFaults}
use Rattle.check_text.specs.Sentences.{told_line}

-- the line of that number, counted from 1
abbrev pub raw_line : (lines : List (List ℕ)) → (number : ℕ) → List ℕ
raw_line lines number = slice_index_or lines (number - 1) []

-- what is said of a fault: its place, and a sentence on the line of its number
abbrev pub fault_line : (path : List ℕ) → (lines : List (List ℕ)) → Found → List ℕ
fault_line path lines found = told_line path (trimmed (raw_line lines found.line)) found

-- the first fault with the number of its line
abbrev pub first_of : List Found → Option (ℕ × LineFault)
first_of [] = None
first_of (one ∷ rest) = Some (one.line, one.fault)

-- what is said of a script is the lines of all its faults, in their order, and the first of them
pub record AreLines (wall : ChineseWall) (path script : List ℕ) (said : ScriptFaults)
    : Type 0 where
  pub found : List Found
  pub faults : AreFaults wall (parts 10 script) found
  pub text : said.text.items ≡ flat_map (fault_line path (parts 10 script)) found
  pub first : said.first ≡ first_of found

-- no line is at fault
abbrev pub IsFaultless : ChineseWall → (lines : List (List ℕ)) → Type 0
IsFaultless wall lines = (n : ℕ) (line : List ℕ) (fault : LineFault) →
    slice_get lines n ≡ Some line → ¬ (HasFault wall line fault)
