-- What all sessions at one door come to. (Own rules.)
use Rattle.std.specs.Prelude.{◌≡◌, ℕ, ◌<◌, ◌≤◌, List, [], length, Option}
use Rattle.std.specs.Prelude.{slice_index_or}
use Rattle.wall_policy.specs.Policy.{ChineseWall}
use Rattle.run_model.specs.Comms.{processes}
use Rattle.run_model.specs.Runs.{Entry, posts}
use Rattle.run_model.specs.Replies.{Legal}
use Rattle.hall_turn.specs.Runs.{Continues, calls_of}
use Rattle.hall_turn.specs.Receipts.{Covered}
use Rattle.hall_turn.specs.Known.{Doorway, Known}
use Rattle.hall_turn.specs.Answers.{new_pass}
use Rattle.live_session.specs.declared.peer.Peer.{Peer}
use Rattle.live_session.specs.declared.peer.Session.{Session}
use Rattle.live_session.specs.Hearing.{DeskLog}
use Rattle.live_session.specs.Sessions.{IsWithin, Stood}
use Rattle.live_session.specs.Sittings.{at, Sits}

module _ {S O : Type 0} (fails : S → ℕ) (left : S → Option (List ℕ))
    (heard : S → DeskLog) (failures : O → ℕ) (contents : O → Option (List ℕ)) where
  -- What became of the session of process p, where this is the run of all calls: its pass has seen
  -- a beginning of the run, with all calls of p. Of those no more are posts that count than the
  -- session may make calls. (A wait is one call, by which the run may have any number of takes.)
  pub record SessionOf (stood : ChineseWall → List Entry → Option Covered → Type 0)
      (most : Option ℕ) (wall : ChineseWall) (run : List Entry) (door : Doorway) (p : ℕ)
      (old : Peer S O) (new : Session S O) : Type 0 where
    pub pass : Known
    pub begins : Continues run pass.seen
    pub own : calls_of p run ≡ calls_of p pass.seen
    pub served : Sits stood most fails left heard failures contents wall
        (at old.source old.sink (new_pass door p)) (at new.peer.source new.peer.sink pass) new.closing
    pub posted : IsWithin most (length (posts (calls_of p run)))

  -- There is a legal run for which the machine stands. The calls of each process in it are those of
  -- its session, which made no more of them than a session may, if there is such a bound, and was
  -- told no reply before its desk was shown a receipt of the machine; what is no process has none.
  pub record ServedAll {M : Type 0} (stands : ChineseWall → M → List Entry → Type 0)
      (booked : M → Option Covered) (most : Option ℕ) (wall : ChineseWall)
      (peers : List (Peer S O)) (sessions : List (Session S O)) (machine : M) : Type 0 where
    pub door : Doorway
    pub run : List Entry
    pub door_is : door.policy ≡ wall
    pub legal : Legal wall run
    pub stood : stands wall machine run
    pub count : length sessions ≡ processes wall
    pub each : (p : ℕ) (d : Peer S O) (e : Session S O) → p < processes wall →
        SessionOf (Stood stands booked) most wall run door p (slice_index_or peers p d)
        (slice_index_or sessions p e)
    pub others : (p : ℕ) → processes wall ≤ p → calls_of p run ≡ []
