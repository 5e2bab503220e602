-- Worked rows: what waiting and scripts come to, and what they do not.
use Rattle.std.specs.Prelude.{List, [], ◌∷◌, true, false}
use Rattle.run_model.specs.declared.call.Posting.{Posting}
use Rattle.run_model.specs.declared.call.Act.TheVariants.{Post as ToPost, Take, Info as ToInfo}
use Rattle.run_model.specs.declared.reply.Reply.TheVariants.{Posted, Pending, NullComm}
use Rattle.run_model.specs.Runs.{Entry}
use Rattle.hall_turn.specs.declared.answer.Answer.TheVariants.{Reply as Replied}
use Rattle.hall_turn.specs.Known.{Doorway, Known}
use Rattle.rank_run.specs.Waits.{Waited}
use Rattle.run_model.specs.Runs.{said}
use Rattle.rank_run.specs.Plays.{Plays}

-- process 2 took its request 0, which waits
abbrev pub waits_for : Entry
waits_for = said 2 (Take 0) Pending

-- process 2 was in no new communicator
abbrev pub ends : Entry
ends = said 2 (Take 0) NullComm

abbrev pub ScriptWaits : Type 0
ScriptWaits = (posting : Posting) →
    Plays 5 2 (ToPost posting ∷ Take 0 ∷ []) (Posted 0 ∷ NullComm ∷ [])
    (said 2 (ToPost posting) (Posted 0) ∷ waits_for ∷ waits_for ∷ ends ∷ [])

abbrev pub ScriptGivesUp : Type 0
ScriptGivesUp = Plays 3 2 (Take 0 ∷ []) (Pending ∷ []) (waits_for ∷ waits_for ∷ []) → ⊥

abbrev pub ActsLeftOut : Type 0
ActsLeftOut = Plays 3 2 (ToInfo 0 ∷ ToInfo 0 ∷ []) (NullComm ∷ NullComm ∷ [])
    (said 2 (ToInfo 0) NullComm ∷ []) → ⊥

-- a pass of process 2 that has seen this run
abbrev pub at_door : Doorway → List Entry → Known
at_door door seen =
    record { door = door; process = 2; seen = seen; settled = false; booked = true }

-- process 1 called meanwhile
abbrev pub other : Entry
other = said 1 (Take 4) Pending

abbrev pub WaitEnds : Type 0
WaitEnds = (door : Doorway) →
    Waited 2 (at_door door (other ∷ [])) 0 (Replied Pending)
    (at_door door (waits_for ∷ other ∷ waits_for ∷ other ∷ []))

abbrev pub WaitOnce : Type 0
WaitOnce = (door : Doorway) →
    Waited 0 (at_door door []) 0 (Replied Pending) (at_door door (waits_for ∷ []))

abbrev pub WaitGivesUp : Type 0
WaitGivesUp = (door : Doorway) →
    Waited 3 (at_door door []) 0 (Replied Pending) (at_door door (waits_for ∷ waits_for ∷ [])) → ⊥
