-- What the thread of a process is given, and what it comes to. (Own rules.)
use Rattle.std.specs.Prelude.{◌≡◌, ℕ, ◌*◌, ◌^◌, ◌<◌, ◌≤◌}
use Rattle.std.specs.Prelude.{Result, Ok, Err, Option, Some, None, List, [], ◌++◌, length, map}
use Rattle.std.specs.Prelude.{reverse, vec_capacity}
use Rattle.std.specs.List.{All, AllZip, fold}
use Rattle.std.specs.Global.{Vec}
use Rattle.run_model.specs.declared.call.Act.{Act}
use Rattle.run_model.specs.declared.reply.Reply.{Reply}
use Rattle.run_model.specs.Runs.{Entry}
use Rattle.run_model.specs.Known.{HasKnownLabel, IsKnownReply}
use Rattle.hall_turn.specs.declared.answer.Answer.{Answer}
use Rattle.hall_turn.specs.declared.answer.Answer.TheVariants.{Reply as Replied, Exhausted}
use Rattle.hall_turn.specs.Runs.{calls_of}
use Rattle.hall_turn.specs.Known.{Doorway, Known}
use Rattle.wall_policy.specs.Policy.{ChineseWall}
use Rattle.run_model.specs.Comms.{processes}
use Rattle.hall_turn.specs.Answers.{IsSamePass, new_passes}
use Rattle.rank_run.specs.declared.fault.RunFault.{RunFault}
use Rattle.rank_run.specs.declared.fault.RunFault.TheVariants.{Exhausted as OutOfTurns, NoThread}
use Rattle.rank_stage.specs.declared.standing.SentHome.{SentHome}
use Rattle.rank_stage.specs.declared.stage.Begun.{Begun}
use Rattle.rank_stage.specs.declared.stage.GivenUp.{GivenUp}
use Rattle.rank_run.specs.declared.rank.Job.{Job}
use Rattle.rank_run.specs.declared.rank.Ending.{Ending}
use Rattle.rank_run.specs.declared.rank.Ending.TheVariants.{Whole, Cut, NotBegun}
use Rattle.rank_run.specs.declared.rank.Played.{Played}
use Rattle.rank_run.specs.declared.rank.Sent.{Sent}
use Rattle.rank_run.specs.declared.rank.Sent.TheVariants.{Away, Home}
use Rattle.rank_run.specs.declared.ready.Room.{Room}
use Rattle.rank_run.specs.declared.ready.Share.{Share}
use Rattle.rank_run.specs.declared.run.Ended.{Ended}
use Rattle.rank_run.specs.Waits.{tries}
use Rattle.rank_run.specs.Plays.{Performs, Plays}

-- the calls of the process that the pass has seen, the oldest first
abbrev pub made : Known → List Entry
made pass = reverse (calls_of pass.process pass.seen)

-- The door was exhausted before the act had its reply. The pass made fewer calls for it than it may
-- try, and has seen 2^62 turns.
pub record Stopped (patience : ℕ) (before after : Known) : Type 0 where
  pub calls : List Entry
  pub more : made after ≡ made before ++ calls
  pub few : length calls < tries patience
  pub long : 2 ^ 62 ≤ length after.seen

-- The pass made the calls that the act comes to, with this reply; or the door was exhausted.
abbrev pub Performed : (patience : ℕ) → (before : Known) → Act → Answer → (after : Known) → Type 0
Performed patience before act (Replied reply) after =
    (calls : List Entry) × Performs patience before.process act reply calls
    × (made after ≡ made before ++ calls)
Performed patience before act Exhausted after = Stopped patience before after

-- A job at the door that has not begun: its pass has seen nothing, it has room for its replies, and
-- the labels of its script are the policy's.
pub record IsFresh (door : Doorway) (job : Job) : Type 0 where
  pub door_is : job.pass.door ≡ door
  pub unseen : job.pass.seen ≡ []
  pub none : job.replies.items ≡ []
  pub room : length job.script.items ≤ vec_capacity job.replies
  pub labels : All (HasKnownLabel door.policy) job.script.items

-- What became of a job. If it was played to its end, the calls of its process are those of its
-- script, with these replies. If it was cut, its pass has seen 2^62 turns. If it did not begin, the
-- pass and the replies are as they were handed in. Its calls are no more than the acts of its
-- script may be tried, and the replies name what the policy has.
pub record HasPlayed (patience : ℕ) (job : Job) (played : Played) : Type 0 where
  pub same : IsSamePass job.pass played.pass
  pub few : length (made played.pass) ≤ tries patience * length job.script.items
  pub whole : played.ending ≡ Whole
      → Plays patience job.pass.process job.script.items played.replies.items (made played.pass)
  pub cut : played.ending ≡ Cut → 2 ^ 62 ≤ length played.pass.seen
  pub not_begun : (home : SentHome) → played.ending ≡ NotBegun home
      → (played.pass ≡ job.pass) × (played.replies ≡ job.replies)
  pub named : All (IsKnownReply job.pass.door.policy) played.replies.items

abbrev pub passes_of : List Job → List Known
passes_of jobs = map (λ job. job.pass) jobs

abbrev pub scripts_of : List Job → List (List Act)
scripts_of jobs = map (λ job. job.script.items) jobs

-- the job has no reply yet, and room for all
abbrev pub HasRoom : Job → Type 0
HasRoom job = (job.replies.items ≡ []) × (length job.script.items ≤ vec_capacity job.replies)

abbrev pub HaveRoom : List Job → Type 0
HaveRoom jobs = All HasRoom jobs

abbrev pub scripts_shared : List Share → List (List Act)
scripts_shared shares = map (λ share. share.script.items) shares

-- the share has no reply yet, and room for all
abbrev pub IsRoomy : Share → Type 0
IsRoomy share =
    (share.replies.items ≡ []) × (length share.script.items ≤ vec_capacity share.replies)

abbrev pub AreRoomy : List Share → Type 0
AreRoomy shares = All IsRoomy shares

-- there is room for what so many jobs come to
pub record HasRoomFor (jobs : ℕ) (room : Room) : Type 0 where
  pub passes : (room.passes.items ≡ []) × (jobs ≤ vec_capacity room.passes)
  pub replies : (room.replies.items ≡ []) × (jobs ≤ vec_capacity room.replies)
  pub ended : (room.ended.items ≡ []) × (jobs ≤ vec_capacity room.ended)
  pub sent : (room.sent.items ≡ []) × (jobs ≤ vec_capacity room.sent)

-- A door with the policy, and a job for each of its passes, with the scripts, in order.
pub record ArePrepared (wall : ChineseWall) (scripts : List (List Act)) (door : Doorway)
    (jobs : List Job) : Type 0 where
  pub policy : door.policy ≡ wall
  pub passes : passes_of jobs ≡ new_passes door (processes wall)
  pub scripts_are : scripts_of jobs ≡ scripts
  pub room : HaveRoom jobs

-- the job was given to this thread, or went home
abbrev pub IsSent : (patience : ℕ) → Job → Sent → Type 0
IsSent patience job (Away handle) = handle.promise.0.value ≡ job
IsSent patience job (Home played) = HasPlayed patience job played

abbrev pub AllSent : (patience : ℕ) → List Job → List Sent → Type 0
AllSent patience jobs sent = AllZip (IsSent patience) jobs sent

-- the thread gave this back, or what went home is this
abbrev pub HasComeBack : (patience : ℕ) → Sent → Played → Type 0
HasComeBack patience (Away handle) played = HasPlayed patience handle.promise.0.value played
HasComeBack patience (Home home) played = played ≡ home

abbrev pub AllCameBack : (patience : ℕ) → List Sent → List Played → Type 0
AllCameBack patience sent all = AllZip (HasComeBack patience) sent all

abbrev pub passes_in : List Played → List Known
passes_in all = map (λ played. played.pass) all

abbrev pub replies_in : List Played → List (Vec Reply)
replies_in all = map (λ played. played.replies) all

-- how two scripts ended, taken together: whole if both did, else cut if one did
abbrev pub joined : Ending → Ending → Ending
joined Whole other = other
joined Cut other = Cut
joined (NotBegun home) Whole = NotBegun home
joined (NotBegun home) Cut = Cut
joined (NotBegun home) (NotBegun later) = NotBegun home

-- what a run answers that ended so; none where all acts were played
abbrev pub fault_of : Ending → Option RunFault
fault_of Whole = None
fault_of Cut = Some OutOfTurns
fault_of (NotBegun home) = Some NoThread

-- how the jobs ended, taken together
abbrev pub ending_of : List Played → Ending
ending_of all = fold (λ ending played. joined ending played.ending) Whole all

-- what a run answers whose ranks were told so, and which ended so: a run that was given up lacked a
-- thread
abbrev pub fault_in : Result Begun GivenUp → Ending → Option RunFault
fault_in (Ok begun) ending = fault_of ending
fault_in (Err given_up) ending = Some NoThread

-- what became of each job
abbrev pub AllPlayed : (patience : ℕ) → List Job → List Played → Type 0
AllPlayed patience jobs all = AllZip (HasPlayed patience) jobs all

-- what all threads gave back, sorted
pub record HaveEnded (patience : ℕ) (jobs : List Job) (ended : Ended) : Type 0 where
  pub all : List Played
  pub played : AllPlayed patience jobs all
  pub passes : ended.passes.items ≡ passes_in all
  pub replies : ended.replies.items ≡ replies_in all
  pub ending : ended.ending ≡ ending_of all
