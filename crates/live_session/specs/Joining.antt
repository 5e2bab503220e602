-- Sessions that are handed to threads and come back: words of private contracts.
use Rattle.std.specs.Prelude.{◌≡◌, ℕ, ◌≤◌, List, [], map, Option, Some}
use Rattle.std.specs.Prelude.{vec_capacity}
use Rattle.std.specs.List.{All, AllZip}
use Rattle.std.specs.declared.thread.PromisedHandle.{PromisedHandle}
use Rattle.wall_policy.specs.Policy.{ChineseWall}
use Rattle.run_model.specs.Comms.{processes}
use Rattle.run_model.specs.Runs.{Entry}
use Rattle.hall_turn.specs.Receipts.{Covered}
use Rattle.hall_turn.specs.Known.{Doorway, Known}
use Rattle.hall_turn.specs.Answers.{new_passes, IsSamePass}
use Rattle.live_session.specs.declared.peer.Peer.{Peer}
use Rattle.live_session.specs.declared.peer.Session.{Session}
use Rattle.live_session.specs.declared.peer.Job.{Job}
use Rattle.live_session.specs.declared.peer.Played.{Played}
use Rattle.live_session.specs.declared.peer.Serving.{Serving}
use Rattle.live_session.specs.declared.ready.Room.{Room}
use Rattle.live_session.specs.declared.run.Ended.{Ended}
use Rattle.live_session.specs.declared.ending.Closing.{Closing}
use Rattle.live_session.specs.Hearing.{DeskLog}
use Rattle.live_session.specs.Sittings.{at, SitsIfBegun}

module _ {S O : Type 0} where
  -- the devices of a session, and how it ended
  abbrev pub end_of : Session S O → Peer S O × Option Closing
  end_of session = (session.peer, Some session.closing)

  abbrev pub ends_of : List (Session S O) → List (Peer S O × Option Closing)
  ends_of sessions = map end_of sessions

module _ {M S O : Type 0} where
  -- a job at the door whose pass has seen nothing
  pub record IsFresh (door : Doorway) (job : Job M S O) : Type 0 where
    pub door_is : job.pass.door ≡ door
    pub unseen : job.pass.seen ≡ []

  -- what the threads were given
  abbrev pub handed : List (PromisedHandle (Played M S O) (Serving M S O)) → List (Job M S O)
  handed handles = map (λ handle. handle.promise.0.value) handles

  abbrev pub passes_of : List (Job M S O) → List Known
  passes_of jobs = map (λ job. job.pass) jobs

  abbrev pub peers_of : List (Job M S O) → List (Peer S O)
  peers_of jobs = map (λ job. job.peer) jobs

  abbrev pub passes_in : List (Played M S O) → List Known
  passes_in all = map (λ played. played.pass) all

  -- the devices that came back, and how their session ended, if it began
  abbrev pub end_in : Played M S O → Peer S O × Option Closing
  end_in played = (played.peer, played.ended)

  abbrev pub ends_in : List (Played M S O) → List (Peer S O × Option Closing)
  ends_in all = map end_in all

  -- a door with the policy, and a job for each of its passes, with the devices, in order, and the
  -- bound of its calls
  pub record ArePrepared (most : Option ℕ) (wall : ChineseWall) (peers : List (Peer S O))
      (door : Doorway) (jobs : List (Job M S O)) : Type 0 where
    pub policy : door.policy ≡ wall
    pub passes : passes_of jobs ≡ new_passes door (processes wall)
    pub peers_are : peers_of jobs ≡ peers
    pub bounds : All (λ job. job.most ≡ most) jobs

  -- there is room for what so many sessions come to
  pub record HasRoomFor (count : ℕ) (room : Room M S O) : Type 0 where
    pub passes : (room.passes.items ≡ []) × (count ≤ vec_capacity room.passes)
    pub sessions : (room.sessions.items ≡ []) × (count ≤ vec_capacity room.sessions)
    pub ended : (room.ended.items ≡ []) × (count ≤ vec_capacity room.ended)
    pub handles : (room.handles.items ≡ []) × (count ≤ vec_capacity room.handles)

module _ (stood : ChineseWall → List Entry → Option Covered → Type 0)
    {M S O : Type 0} (fails : S → ℕ) (left : S → Option (List ℕ))
    (heard : S → DeskLog) (failures : O → ℕ) (contents : O → Option (List ℕ)) where
  -- what became of a job
  pub record HasServed (job : Job M S O) (played : Played M S O) : Type 0 where
    pub so : SitsIfBegun stood job.most fails left heard failures contents job.pass.door.policy
        (at job.peer.source job.peer.sink job.pass)
        (at played.peer.source played.peer.sink played.pass) played.ended
    pub same : IsSamePass job.pass played.pass

  abbrev pub AllServed : List (Job M S O) → List (Played M S O) → Type 0
  AllServed jobs all = AllZip HasServed jobs all

  -- what all threads gave back, sorted
  pub record HaveEnded (jobs : List (Job M S O)) (ended : Ended M S O) : Type 0 where
    pub all : List (Played M S O)
    pub served : AllServed jobs all
    pub passes : ended.passes.items ≡ passes_in all
    pub sessions : ends_of ended.sessions.items ≡ ends_in all
