-- What a script says, and what becomes of it. (Own format.)
use Rattle.std.specs.Prelude.{◌≡◌, ◌⊎◌, ℕ, ◌+◌, ◌-◌, ◌<◌, nat_lt, Bool, true, ◌==◌, List, [], ◌∷◌}
use Rattle.std.specs.Prelude.{◌++◌, length, take, slice_index, slice_get, Option, Some, None}
use Rattle.std.specs.Prelude.{Result, Ok, Err, if◌then◌else◌}
use Rattle.std.specs.Io.KnownBytes.{Appends}
use Rattle.wall_labels.specs.Known.{AppendsPrefix}
use Rattle.wall_policy.specs.Policy.{ChineseWall}
use Rattle.run_model.specs.declared.call.Act.{Act}
use Rattle.run_model.specs.declared.call.Call.{Call}
use Rattle.run_model.specs.Runs.{Entry}
use Rattle.run_model.specs.Replies.{Legal}
use Rattle.coll_text.specs.declared.fault.LineFault.{LineFault}
use Rattle.coll_text.specs.declared.fault.LineFault.TheVariants.{BadField}
use Rattle.hall_script.specs.declared.fault.ScriptFault.{ScriptFault}
use Rattle.hall_script.specs.declared.fault.ScriptFault.TheVariants.{Read, Line, Write, NoMemory}
use Rattle.coll_text.specs.Numbers.{Word}
use Rattle.coll_text.specs.Reading.{◌>>=◌, parts}
use Rattle.hall_script.specs.Devices.{Used, bytes_before, bytes_after, IsUntouched, NeverFailed}
use Rattle.hall_script.specs.Devices.{FailedOnce, IsRead, IsUnreadable}
use Rattle.hall_script.specs.Lines.{answer_to}
use Rattle.hall_script.specs.Replies.{reply_line}

-- the most bytes of a script, or of a policy
abbrev pub script_limit : ℕ
script_limit = 16777216

-- ---- lines

-- without one CR at the end
abbrev pub trimmed : List ℕ → List ℕ
trimmed line =
    if slice_index line (length line - 1) == 13 then take (length line - 1) line else line

-- an empty line, and one that begins with `#`
abbrev pub is_skipped : List ℕ → Bool
is_skipped [] = true
is_skipped (b ∷ bs) = b == 35

-- the call of a line, none where it is skipped
unfoldable pub line_call : List Word → List ℕ → Result (Option Call) LineFault
line_call datasets line =
    if is_skipped (trimmed line) then Ok None
    else (answer_to datasets (trimmed line) >>= λ call. Ok (Some call))

-- ---- scripts

-- the calls of the lines up to the first fault, and that fault with the number of its line
pub record Script : Type 0 where
  pub calls : List Call
  pub fault : Option (ℕ × LineFault)

abbrev pub with_line : ℕ → Result (Option Call) LineFault → Script → Script
with_line n (Ok None) rest = rest
with_line n (Ok (Some call)) rest = record { calls = call ∷ rest.calls; fault = rest.fault }
with_line n (Err fault) rest = record { calls = []; fault = Some (n, fault) }

-- of lines from this number on, each read so
unfoldable pub script_from : (List ℕ → Result (Option Call) LineFault) → ℕ → List (List ℕ) → Script
script_from read n [] = record { calls = []; fault = None }
script_from read n (line ∷ lines) = with_line n (read line) (script_from read (n + 1) lines)

-- lines end at LF, and are counted from 1
abbrev pub script_of : List Word → List ℕ → Script
script_of datasets bytes = script_from (line_call datasets) 1 (parts 10 bytes)

-- ---- runs, whose newest entry is the first

-- the calls of a run, the first call first
abbrev pub calls_in : List Entry → List Call
calls_in [] = []
calls_in (e ∷ run) = calls_in run ++ e.call ∷ []

-- the lines of its replies, the first reply first
abbrev pub reply_lines : ChineseWall → List Entry → List ℕ
reply_lines wall [] = []
reply_lines wall (e ∷ run) = reply_lines wall run ++ reply_line wall e.reply

-- this legal run answers the calls, and the lines of its replies were written
pub record Answers (wall : ChineseWall) (before after : Option (List ℕ))
    (calls : List Call) (run : List Entry) : Type 0 where
  pub legal : Legal wall run
  pub answered : calls_in run ≡ calls
  pub written : Appends before after (reply_lines wall run)

-- some legal run answers the first of the calls, and a prefix of the lines of its replies was
-- written
pub record Stops (wall : ChineseWall) (before after : Option (List ℕ))
    (calls : List Call) : Type 0 where
  pub run : List Entry
  pub rest : List Call
  pub legal : Legal wall run
  pub first : calls_in run ++ rest ≡ calls
  pub written : AppendsPrefix before after (reply_lines wall run)

-- some legal run answers the calls before one of them, and the lines of its replies were written
pub record StopsAtCall (wall : ChineseWall) (before after : Option (List ℕ))
    (calls : List Call) : Type 0 where
  pub run : List Entry
  pub call : Call
  pub rest : List Call
  pub legal : Legal wall run
  pub first : calls_in run ++ call ∷ rest ≡ calls
  pub written : Appends before after (reply_lines wall run)

-- The script was read and has no bad line. This legal run answers its calls, and the lines of its
-- replies were written.
pub record IsReplayed {R W : Type 0} (wall : ChineseWall)
    (source : Used R) (sink : Used W) (run : List Entry) : Type 0 where
  pub script : List ℕ
  pub read : IsRead source script_limit script
  pub faultless : (script_of wall.dataset_names script).fault ≡ None
  pub went : NeverFailed sink
  pub answers : Answers wall (bytes_before sink) (bytes_after sink)
      (script_of wall.dataset_names script).calls run

-- a legal run answers the calls before the bad line of this number
abbrev pub StopsAtLine : {W : Type 0} → ChineseWall → Used W → Script → ℕ → LineFault → Type 0
StopsAtLine wall sink script n fault =
    (run : List Entry) × NeverFailed sink
    × Answers wall (bytes_before sink) (bytes_after sink) script.calls run
    × (script.fault ≡ Some (n, fault))

-- memory ran out: before the first line, and nothing was written; or at a line that is a call
abbrev pub StopsShort : {R W : Type 0} → ChineseWall → Used R → Used W → Type 0
StopsShort wall source sink =
    (NeverFailed source × IsUntouched sink)
    ⊎ ((script : List ℕ) × IsRead source script_limit script × NeverFailed sink
    × StopsAtCall wall (bytes_before sink) (bytes_after sink)
    (script_of wall.dataset_names script).calls)

-- what a replay leaves that ended with this fault
abbrev pub StopsWith : {R W : Type 0} → ChineseWall → Used R → Used W → ScriptFault → Type 0
StopsWith wall source sink Read = IsUnreadable source script_limit × IsUntouched sink
StopsWith wall source sink (Line n fault) =
    (script : List ℕ) × IsRead source script_limit script
    × StopsAtLine wall sink (script_of wall.dataset_names script) n fault
StopsWith wall source sink Write =
    (script : List ℕ) × IsRead source script_limit script × FailedOnce sink
    × Stops wall (bytes_before sink) (bytes_after sink) (script_of wall.dataset_names script).calls
StopsWith wall source sink NoMemory = StopsShort wall source sink

-- ---- the acts of each process

-- the call of a line, if the policy has its process
abbrev pub of_member : ChineseWall → Option Call → Result (Option Call) LineFault
of_member wall None = Ok None
of_member wall (Some call) =
    if nat_lt call.process (length wall.process_names) then Ok (Some call) else Err BadField

-- a line's own fault comes first
unfoldable pub member_call : ChineseWall → List ℕ → Result (Option Call) LineFault
member_call wall line = line_call wall.dataset_names line >>= λ said. of_member wall said

-- a script whose calls must be of processes of the policy
abbrev pub members_script : ChineseWall → List ℕ → Script
members_script wall bytes = script_from (member_call wall) 1 (parts 10 bytes)

-- the acts of p's calls, in order
abbrev pub acts_of : (p : ℕ) → List Call → List Act
acts_of p [] = []
acts_of p (call ∷ calls) = if call.process == p then call.act ∷ acts_of p calls else acts_of p calls

-- for each process of the policy the acts of its calls
pub record AreActs (wall : ChineseWall) (calls : List Call)
    (scripts : List (List Act)) : Type 0 where
  pub count : length scripts ≡ length wall.process_names
  pub each : (p : ℕ) → p < length wall.process_names → slice_get scripts p ≡ Some (acts_of p calls)

-- what splitting a script gives: the acts of all its calls, or its first fault, or out of memory in
-- place of either
abbrev pub IsSplit : ChineseWall → Script → Result (List (List Act)) ScriptFault → Type 0
IsSplit wall script (Ok scripts) = AreActs wall script.calls scripts × (script.fault ≡ None)
IsSplit wall script (Err (Line n fault)) = script.fault ≡ Some (n, fault)
IsSplit wall script (Err NoMemory) = Unit {0}
IsSplit wall script (Err Read) = ⊥
IsSplit wall script (Err Write) = ⊥
