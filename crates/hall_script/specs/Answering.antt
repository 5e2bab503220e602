-- How a script is answered line by line: words of private contracts.
use Rattle.std.specs.Prelude.{◌≡◌, ◌+◌, ℕ, List, [], ◌∷◌, ◌++◌, Option, Some, None, Result, Ok, Err}
use Rattle.std.specs.Io.KnownBytes.{Appends}
use Rattle.wall_policy.specs.Policy.{ChineseWall}
use Rattle.run_model.specs.declared.call.Call.{Call}
use Rattle.run_model.specs.declared.reply.Reply.{Reply}
use Rattle.run_model.specs.Runs.{Entry, entry}
use Rattle.run_model.specs.Replies.{Legal}
use Rattle.coll_text.specs.declared.fault.LineFault.{LineFault}
use Rattle.coll_text.specs.declared.fault.LineFault.TheVariants as lines
use Rattle.hall_script.specs.declared.fault.ScriptFault.{ScriptFault}
use Rattle.hall_script.specs.declared.fault.ScriptFault.TheVariants.{Read, Line, Write, NoMemory}
use Rattle.hall_script.specs.Replies.{reply_line}
use Rattle.hall_script.specs.Scripts.{Script, calls_in, reply_lines, Answers, Stops, StopsAtCall}

-- a call with its reply carries a machine from each run that it stands for to that run with this
-- entry
abbrev pub Carries : {M : Type 0} → (M → List Entry → Type 0) → ChineseWall → M → M → Call → Reply →
    Type 0
Carries stands wall old new call reply =
    (run : List Entry) → Legal wall run → stands old run
    → Legal wall (entry call reply ∷ run) × stands new (entry call reply ∷ run)

-- A call with this reply carries a machine from this run to that with the entry, and the line of
-- the reply was added to the text.
pub record IsAnswered {M : Type 0} (stands : M → List Entry → Type 0) (wall : ChineseWall)
    (new : M) (before after : List ℕ) (call : Call) (run : List Entry) : Type 0 where
  pub reply : Reply
  pub legal : Legal wall (entry call reply ∷ run)
  pub standing : stands new (entry call reply ∷ run)
  pub text : after ≡ before ++ reply_line wall reply

-- a call was answered, whatever run the machine stood for, and the line of its reply added to the
-- text
abbrev pub AnswersCall : {M : Type 0} → (M → List Entry → Type 0) → ChineseWall → M → M →
    (before after : List ℕ) → Call → Type 0
AnswersCall stands wall old new before after call =
    (run : List Entry) → Legal wall run → stands old run
    → IsAnswered stands wall new before after call run

-- the line says a call
abbrev pub IsCall : Result (Option Call) LineFault → Type 0
IsCall (Ok (Some call)) = Unit {0}
IsCall (Ok None) = ⊥
IsCall (Err fault) = ⊥

-- the fault of a line: nothing was done, and memory runs out only at a call
abbrev pub FailsLine : {M : Type 0} → M → M → (before after : List ℕ) →
    Result (Option Call) LineFault → LineFault → Type 0
FailsLine old new before after said lines.NoMemory = IsCall said × (after ≡ before)
FailsLine old new before after said fault = (said ≡ Err fault) × (new ≡ old) × (after ≡ before)

-- what was done with a line that says this
abbrev pub AnswersLine : {M X : Type 0} → (M → List Entry → Type 0) → ChineseWall → M → M →
    (before after : List ℕ) → Result (Option Call) LineFault → Result X LineFault → Type 0
AnswersLine stands wall old new before after (Ok None) (Ok x) = (new ≡ old) × (after ≡ before)
AnswersLine stands wall old new before after (Ok (Some call)) (Ok x) =
    AnswersCall stands wall old new before after call
AnswersLine stands wall old new before after (Err e) (Ok x) = ⊥
AnswersLine stands wall old new before after said (Err fault) =
    FailsLine old new before after said fault

-- the fault of a script for a fault of its line
abbrev pub line_fault : ℕ → LineFault → ScriptFault
line_fault n lines.NoMemory = NoMemory
line_fault n fault = Line n fault

-- ---- lines so far

-- these calls, and then the script
abbrev pub behind : List Call → Script → Script
behind done s = record { calls = done ++ s.calls; fault = s.fault }

-- This run answers the lines so far. The lines of its replies are what was written, and then the
-- text; this rest of the script is left.
pub record Told (wall : ChineseWall) (before now : Option (List ℕ)) (text : List ℕ)
    (whole rest : Script) (run : List Entry) : Type 0 where
  pub legal : Legal wall run
  pub sent : List ℕ
  pub written : Appends before now sent
  pub kept : sent ++ text ≡ reply_lines wall run
  pub left : behind (calls_in run) rest ≡ whole

-- and a machine stands for it
pub record SoFar {M : Type 0} (stands : M → List Entry → Type 0) (wall : ChineseWall) (machine : M)
    (before now : Option (List ℕ)) (text : List ℕ) (whole rest : Script) : Type 0 where
  pub run : List Entry
  pub told : Told wall before now text whole rest run
  pub standing : stands machine run

abbrev pub no_more : Script
no_more = record { calls = []; fault = None }

abbrev pub fault_at : ℕ → LineFault → Script
fault_at n fault = record { calls = []; fault = Some (n, fault) }

-- how the lines ended, with a text that is still to be written
abbrev pub Ends : {M X : Type 0} → (M → List Entry → Type 0) → ChineseWall → M →
    (before now : Option (List ℕ)) → (text : List ℕ) → Script → Result X ScriptFault → Type 0
Ends stands wall machine before now text whole (Ok x) =
    SoFar stands wall machine before now text whole no_more
Ends stands wall machine before now text whole (Err (Line n fault)) =
    (run : List Entry) × Told wall before now text whole (fault_at n fault) run
Ends stands wall machine before now text whole (Err NoMemory) =
    (call : Call) × (rest : Script) × (run : List Entry)
    × Told wall before now text whole (behind (call ∷ []) rest) run
Ends stands wall machine before now text whole (Err Write) = Stops wall before now whole.calls
Ends stands wall machine before now text whole (Err Read) = ⊥

-- how the script ended, when all was written out
abbrev pub Finishes : {M X : Type 0} → (M → List Entry → Type 0) → ChineseWall → M →
    (before after : Option (List ℕ)) → Script → Result X ScriptFault → Type 0
Finishes stands wall machine before after script (Ok x) = (run : List Entry)
    × Answers wall before after script.calls run × stands machine run × (script.fault ≡ None)
Finishes stands wall machine before after script (Err (Line n fault)) =
    (run : List Entry) × Answers wall before after script.calls run
    × (script.fault ≡ Some (n, fault))
Finishes stands wall machine before after script (Err Write) = Stops wall before after script.calls
Finishes stands wall machine before after script (Err NoMemory) =
    StopsAtCall wall before after script.calls
Finishes stands wall machine before after script (Err Read) = ⊥

-- a machine that has answered the whole script, by a writer with so many failures before and after
pub record HasFinished {M : Type 0} (stands : M → List Entry → Type 0) (wall_of : M → ChineseWall)
    (wall : ChineseWall) (before after : Option (List ℕ)) (fewer failures : ℕ)
    (script : Script) (machine : M) : Type 0 where
  pub wall_is : wall_of machine ≡ wall
  pub went : failures ≡ fewer
  pub finishes : Finishes {X = Unit {0}} stands wall machine before after script (Ok tt)

abbrev pub stopped_by : ScriptFault → Result (Unit {0}) ScriptFault
stopped_by fault = Err fault

-- some machine has stopped with this fault
pub record HasStopped {M : Type 0} (stands : M → List Entry → Type 0) (wall : ChineseWall)
    (before after : Option (List ℕ)) (fewer failures : ℕ)
    (script : Script) (fault : ScriptFault) : Type 0 where
  pub machine : M
  pub went : (stopped_by fault ≡ stopped_by Write → ⊥) → failures ≡ fewer
  pub broke : stopped_by fault ≡ stopped_by Write → failures ≡ fewer + 1
  pub finishes : Finishes stands wall machine before after script (stopped_by fault)
