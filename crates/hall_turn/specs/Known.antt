-- What contracts see of doors, passes and notes.
use Rattle.std.specs.Prelude.{ℕ, Bool, List}
use Rattle.atomic_table.specs.Seated.{TableId}
use Rattle.wall_policy.specs.Policy.{ChineseWall}
use Rattle.run_model.specs.Runs.{Entry}

-- a door: which one it is, and its policy
pub record Doorway : Type 0 where
  pub name : TableId
  pub policy : ChineseWall

-- a pass: its door, the process that it calls as, the run that it has seen, whether its last call
-- settled an instance, and whether the machine was booked at the end of that call's turn
pub record Known : Type 0 where
  pub door : Doorway
  pub process : ℕ
  pub seen : List Entry
  pub settled : Bool
  pub booked : Bool

-- a note: its door, and the run that its maker had seen
pub record Noted : Type 0 where
  pub door : Doorway
  pub seen : List Entry
