-- What a run of scripts comes to. (Own rules.)
use Rattle.std.specs.Prelude.{◌≡◌, ℕ, ◌*◌, ◌^◌, ◌<◌, ◌≤◌, List, [], length, reverse, slice_index_or}
use Rattle.std.specs.List.{All, sum_by}
use Rattle.wall_policy.specs.Policy.{ChineseWall}
use Rattle.run_model.specs.Comms.{processes}
use Rattle.run_model.specs.declared.call.Act.{Act}
use Rattle.run_model.specs.declared.reply.Reply.{Reply}
use Rattle.run_model.specs.Runs.{Entry}
use Rattle.run_model.specs.Replies.{Legal}
use Rattle.hall_core.specs.Halls.{HallValue, StandsFor}
use Rattle.run_model.specs.Known.{IsKnownReply}
use Rattle.hall_turn.specs.Runs.{calls_of}
use Rattle.rank_run.specs.Waits.{tries}
use Rattle.rank_run.specs.Plays.{Plays}

-- how many turns the scripts take at most: every act tried as often as it may be
abbrev pub most_turns : (patience : ℕ) → (scripts : List (List Act)) → ℕ
most_turns patience scripts = tries patience * sum_by (λ script. length script) scripts

-- the scripts may take as many turns as a door has
abbrev pub MayRunOut : (patience : ℕ) → (scripts : List (List Act)) → Type 0
MayRunOut patience scripts = 2 ^ 62 ≤ most_turns patience scripts

-- A legal run under this policy. Each process has a script and a list of replies; the calls of the
-- process in the run are those of its script, and the replies are those to its acts. What is no
-- process has no call in the run. The replies name what the policy has.
pub record IsRun (patience : ℕ) (wall : ChineseWall) (scripts : List (List Act))
    (replies : List (List Reply)) (run : List Entry) : Type 0 where
  pub legal : Legal wall run
  pub scripts_are : length scripts ≡ processes wall
  pub replies_are : length replies ≡ processes wall
  pub each : (p : ℕ) → p < processes wall →
      Plays patience p (slice_index_or scripts p []) (slice_index_or replies p [])
      (reverse (calls_of p run))
  pub others : (p : ℕ) → processes wall ≤ p → calls_of p run ≡ []
  pub named : All (All (IsKnownReply wall)) replies

-- there is such a run, and the hall stands for it
pub record Ran (patience : ℕ) (wall : ChineseWall) (scripts : List (List Act))
    (replies : List (List Reply)) (hall : HallValue) : Type 0 where
  pub run : List Entry
  pub is : IsRun patience wall scripts replies run
  pub policy : hall.policy ≡ wall
  pub stands : StandsFor hall run
