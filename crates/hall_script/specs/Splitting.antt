-- How a script is split line by line: words of private contracts.
use Rattle.std.specs.Prelude.{◌≡◌, ℕ, ◌<◌, List, [], ◌∷◌, ◌++◌, length, slice_index_or, slice_set}
use Rattle.std.specs.Prelude.{Option, Some, None, Result, Ok}
use Rattle.wall_policy.specs.Policy.{ChineseWall}
use Rattle.coll_text.specs.declared.fault.LineFault.{LineFault}
use Rattle.coll_text.specs.Reading.{◌>>=◌}
use Rattle.run_model.specs.declared.call.Act.{Act}
use Rattle.run_model.specs.declared.call.Call.{Call}
use Rattle.hall_script.specs.Scripts.{Script, member_call, acts_of}

-- with one more act of the process
abbrev pub with_act : List (List Act) → (p : ℕ) → Act → List (List Act)
with_act rows p act = slice_set rows p (slice_index_or rows p [] ++ act ∷ [])

abbrev pub with_said : List (List Act) → Option Call → List (List Act)
with_said rows None = rows
with_said rows (Some call) = with_act rows call.process call.act

-- with what a line says
abbrev pub with_line_of : ChineseWall → List ℕ → List (List Act) →
    Result (List (List Act)) LineFault
with_line_of wall line rows = member_call wall line >>= λ said. Ok (with_said rows said)

-- So far each process has the first of its acts, and the others are those of this rest of the
-- script.
pub record SplitSoFar (wall : ChineseWall) (whole rest : Script) (rows : List (List Act))
    : Type 0 where
  pub count : length rows ≡ length wall.process_names
  pub each : (p : ℕ) → p < length rows →
      slice_index_or rows p [] ++ acts_of p rest.calls ≡ acts_of p whole.calls
  pub fault : rest.fault ≡ whole.fault
