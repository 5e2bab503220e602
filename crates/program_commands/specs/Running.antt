-- How the run of a script ends whose calls each process makes for itself.
use Rattle.std.specs.Prelude.{◌≡◌, ℕ, zero, suc, ◌⊎◌, List, [], ◌++◌, length, slice_index_or, codes}
use Rattle.std.specs.Prelude.{Option, Some, None, Result, Ok, Err}
use Rattle.std.specs.List.{flat_map}
use Rattle.std.specs.Fmt.{decimal}
use Rattle.wall_policy.specs.Policy.{ChineseWall}
use Rattle.run_model.specs.declared.call.Act.{Act}
use Rattle.run_model.specs.declared.reply.Reply.{Reply}
use Rattle.run_model.specs.Runs.{Entry}
use Rattle.hall_core.specs.Halls.{HallValue}
use Rattle.coll_text.specs.Words.{name_at}
use Rattle.audit_book.specs.declared.fault.WriteFault.{WriteFault as BookWriteFault}
use Rattle.audit_book.specs.declared.fault.WriteFault.TheVariants as writes
use Rattle.hall_script.specs.Devices.{Used, IsUntouched, NeverFailed, IsRead, IsUnreadable}
use Rattle.hall_script.specs.Devices.{IsWritten, IsBegun, BrokeOff}
use Rattle.hall_script.specs.Replies.{reply_line}
use Rattle.hall_script.specs.Scripts.{script_limit, members_script, AreActs}
use Rattle.rank_run.specs.Waits.{script_patience}
use Rattle.rank_run.specs.declared.fault.RunFault.{RunFault}
use Rattle.rank_run.specs.declared.fault.RunFault.TheVariants as runs
use Rattle.rank_run.specs.Ran.{IsRun, Ran, MayRunOut}
use Rattle.program_commands.specs.declared.ending.Ending.{Ending}
use Rattle.program_commands.specs.declared.ending.Ending.TheVariants.{BadLine, ReadFault}
use Rattle.program_commands.specs.declared.ending.Ending.TheVariants.{WriteFault}
use Rattle.program_commands.specs.declared.ending.Ending.TheVariants.{NoThread, Exhausted, NoMemory}
use Rattle.program_commands.specs.declared.ending.Ending.TheVariants.{BadArguments}
use Rattle.program_commands.specs.Replaying.{IsKept, IsUnkept}
use Rattle.program_commands.specs.Walls.{IsPolicyOf, IsNoPolicy}

-- ---- the text of a run

-- the line of a process: its number and its name
abbrev pub rank_line : ChineseWall → (p : ℕ) → List ℕ
rank_line wall p =
    codes "rank " ++ decimal p ++ codes " " ++ name_at wall.process_names p ++ codes "\n"

-- the lines of replies, in their order
abbrev pub reply_lines : ChineseWall → List Reply → List ℕ
reply_lines wall replies = flat_map (reply_line wall) replies

-- of the first so many processes: the line of each, and those of its replies
unfoldable pub ranks_text : ChineseWall → (replies : List (List Reply)) → (processes : ℕ) → List ℕ
ranks_text wall replies zero = []
ranks_text wall replies (suc p) =
    ranks_text wall replies p
    ++ (rank_line wall p ++ reply_lines wall (slice_index_or replies p []))

-- of all processes
abbrev pub rank_text : ChineseWall → (replies : List (List Reply)) → List ℕ
rank_text wall replies = ranks_text wall replies (length replies)

-- ---- the script

-- It was read without a failure; the calls of its lines, by their processes, are these acts.
pub record IsScriptOf {S : Type 0}
    (wall : ChineseWall) (script : Used S) (scripts : List (List Act)) : Type 0 where
  pub bytes : List ℕ
  pub read : IsRead script script_limit bytes
  pub faultless : (members_script wall bytes).fault ≡ None
  pub acts : AreActs wall (members_script wall bytes).calls scripts

-- there is no script, and this is why
abbrev pub IsNoScript : {S : Type 0} → ChineseWall → Used S → Ending → Type 0
IsNoScript wall script (BadLine n fault) =
    (bytes : List ℕ) × IsRead script script_limit bytes
    × ((members_script wall bytes).fault ≡ Some (n, fault))
IsNoScript wall script ReadFault = IsUnreadable script script_limit
IsNoScript wall script NoMemory = NeverFailed script
IsNoScript wall script ending = ⊥

-- ---- the run

-- How it ends where the scripts were not run to their ends. There is one script for each process,
-- so the first never comes.
abbrev pub run_ending : RunFault → Ending
run_ending runs.BadScripts = BadArguments
run_ending runs.NoThread = NoThread
run_ending runs.Exhausted = Exhausted
run_ending runs.NoMemory = NoMemory

-- These scripts were not run to their ends: a thread was refused; or memory ran out; or the door
-- had 2^62 turns, which comes only where their acts, each tried as often as it may be, are as many.
abbrev pub IsNoRun : (scripts : List (List Act)) → Ending → Type 0
IsNoRun scripts NoThread = Unit {0}
IsNoRun scripts Exhausted = MayRunOut script_patience scripts
IsNoRun scripts NoMemory = Unit {0}
IsNoRun scripts ending = ⊥

abbrev pub break_ending : BookWriteFault → Ending
break_ending writes.Write = WriteFault
break_ending writes.NoMemory = NoMemory

-- a prefix of the text was written, and then the writer failed, or memory ran out
abbrev pub Breaks : {O : Type 0} → Used O → List ℕ → Ending → Type 0
Breaks out text WriteFault = BrokeOff out text
Breaks out text NoMemory = IsBegun out text
Breaks out text ending = ⊥

-- All scripts were run to their ends, in a legal run whose calls of each process are those of its
-- script. The replies were written, and then the book of that very run was kept; or a prefix of
-- them was written, and no book was kept.
pub record Tells {O B : Type 0} (wall : ChineseWall) (scripts : List (List Act))
    (out : Used O) (book : Option (Used B)) (ending : Ending) : Type 0 where
  pub replies : List (List Reply)
  pub run : List Entry
  pub ran : IsRun script_patience wall scripts replies run
  pub told : (IsWritten out (rank_text wall replies) × IsKept wall run book ending)
      ⊎ (Breaks out (rank_text wall replies) ending × IsUnkept book)

-- How the run of a script ends: there is none; or its calls were not run to their ends, and nothing
-- was written; or the replies were told.
abbrev pub Runs : {S O B : Type 0}
    → ChineseWall → Used S → Used O → Option (Used B) → Ending → Type 0
Runs wall script out book ending =
    (IsNoScript wall script ending × IsUntouched out × IsUnkept book)
    ⊎ ((scripts : List (List Act)) × IsScriptOf wall script scripts
    × ((IsNoRun scripts ending × IsUntouched out × IsUnkept book)
    ⊎ Tells wall scripts out book ending))

-- How `run` ends: there is no policy, and no other device was touched; or its script was run.
abbrev pub RunEnds : {P S O B : Type 0}
    → Used P → Used S → Used O → Option (Used B) → Ending → Type 0
RunEnds policy script out book ending =
    (IsNoPolicy policy ending × IsUntouched script × IsUntouched out × IsUnkept book)
    ⊎ ((wall : ChineseWall) × IsPolicyOf policy wall × Runs wall script out book ending)

-- ---- words of private contracts

-- the line of a process, and those of its replies
abbrev pub process_lines : ChineseWall → (p : ℕ) → List Reply → List ℕ
process_lines wall p replies = rank_line wall p ++ reply_lines wall replies

-- the script was read and its calls were run to their ends, the hall stands for that run, and the
-- text was written
pub record Reached {S O : Type 0}
    (wall : ChineseWall) (script : Used S) (out : Used O) (hall : HallValue) : Type 0 where
  pub scripts : List (List Act)
  pub read : IsScriptOf wall script scripts
  pub replies : List (List Reply)
  pub ran : Ran script_patience wall scripts replies hall
  pub written : IsWritten out (rank_text wall replies)

-- the script was not run, or its text not written, and it ended so
abbrev pub FellShort : {S O : Type 0} → ChineseWall → Used S → Used O → Ending → Type 0
FellShort wall script out ending =
    (IsNoScript wall script ending × IsUntouched out)
    ⊎ ((scripts : List (List Act)) × IsScriptOf wall script scripts
    × ((IsNoRun scripts ending × IsUntouched out)
    ⊎ ((replies : List (List Reply)) × (run : List Entry)
    × IsRun script_patience wall scripts replies run
    × Breaks out (rank_text wall replies) ending)))

-- no policy was read, and nothing was touched; or the script was run under it
abbrev pub RunsIfRead : {S O : Type 0}
    → Result ChineseWall Ending → Used S → Used O → Result HallValue Ending → Type 0
RunsIfRead (Err ending) script out hall = (hall ≡ Err ending) × IsUntouched script × IsUntouched out
RunsIfRead (Ok wall) script out (Ok hall) = Reached wall script out hall
RunsIfRead (Ok wall) script out (Err ending) = FellShort wall script out ending
