-- The end of a door.
use Rattle.std.specs.Prelude.{◌≡◌, ℕ, ◌<◌, ◌≤◌, List, [], All, Any}
use Rattle.wall_policy.specs.Policy.{ChineseWall}
use Rattle.run_model.specs.Comms.{processes}
use Rattle.run_model.specs.Runs.{Entry}
use Rattle.run_model.specs.Replies.{Legal}
use Rattle.hall_core.specs.Halls.{HallValue}
use Rattle.hall_turn.specs.Machines.{Stands}
use Rattle.hall_turn.specs.Runs.{Continues, calls_of}
use Rattle.hall_turn.specs.Known.{Known}

-- the pass has seen a beginning of the run, with all calls of its process
pub record HasMade (run : List Entry) (pass : Known) : Type 0 where
  pub begins : Continues run pass.seen
  pub own : calls_of pass.process run ≡ calls_of pass.process pass.seen

-- There is a legal run for which the machine stands. It begins with what each pass has seen, and
-- the calls of each process in it are those that its pass has seen; of what is no process it has
-- none.
pub record ClosedTo {M : Type 0} (stands : ChineseWall → M → List Entry → Type 0)
    (wall : ChineseWall) (machine : M) (passes : List Known) : Type 0 where
  pub run : List Entry
  pub legal : Legal wall run
  pub stood : stands wall machine run
  pub each : All (HasMade run) passes
  pub whole : (p : ℕ) → p < processes wall → Any (λ pass. pass.process ≡ p) passes
  pub others : (p : ℕ) → processes wall ≤ p → calls_of p run ≡ []

-- what is so at the end of a door to a hall, which has this policy and stands for the run
abbrev pub Closed : ChineseWall → HallValue → (passes : List Known) → Type 0
Closed = ClosedTo Stands
