-- The faults of a script, with their places. (Own rule.)
use Rattle.std.specs.Prelude.{◌≡◌, ℕ, ◌+◌, ◌-◌, ◌<◌, ◌≤◌, List, slice_get, All}
use Rattle.std.specs.Prelude.{AllPairs, Contains, Some, Err}
use Rattle.wall_policy.specs.Policy.{ChineseWall}
use Rattle.coll_text.specs.declared.fault.LineFault.{LineFault}
use Rattle.hall_script.specs.Scripts.{trimmed, member_call}
use Rattle.script_places.specs.declared.found.Found.{Found}
use Rattle.script_places.specs.Places.{IsFaultColumn}

-- the line is not passed over, is no call of a process that the policy has, and has this fault
abbrev pub HasFault : ChineseWall → (line : List ℕ) → LineFault → Type 0
HasFault wall line fault = member_call wall line ≡ Err fault

-- the line of that number, counted from 1, has the fault, which stands in that column
pub record IsFound (wall : ChineseWall) (lines : List (List ℕ)) (found : Found) : Type 0 where
  pub line : List ℕ
  pub counted : 1 ≤ found.line
  pub there : slice_get lines (found.line - 1) ≡ Some line
  pub fault : HasFault wall line found.fault
  pub column : IsFaultColumn wall (trimmed line) found.fault found.column

-- All faults of these lines, in the order of the lines: each of them is a line's fault, in its
-- place, each line that has a fault has one of them, and no line has two.
pub record AreFaults (wall : ChineseWall) (lines : List (List ℕ)) (found : List Found)
    : Type 0 where
  pub sound : All (IsFound wall lines) found
  pub whole : (n : ℕ) (line : List ℕ) (fault : LineFault) → slice_get lines n ≡ Some line →
      HasFault wall line fault → (one : Found) × Contains found one × (one.line ≡ n + 1)
  pub once : AllPairs (λ a b. a.line < b.line) found
