-- The posts that a state stands for, and what it tells of the next.
use Rattle.std.specs.Prelude.{◌≡◌, ℕ, ◌≤◌, List, [], ◌∷◌, not, ◌&&◌, length, slice_get, Option}
use Rattle.std.specs.Prelude.{Some, None, if◌then◌else◌}
use Rattle.wall_policy.specs.Policy.{ChineseWall}
use Rattle.wall_rules.specs.Histories.{has}
use Rattle.coll_routes.specs.declared.statement.Stated.{Stated}
use Rattle.coll_routes.specs.Fit.{IsFit}
use Rattle.coll_pending.specs.Instances.{Instance, is_begun}
use Rattle.run_model.specs.Comms.{Comm, processes}
use Rattle.coll_routes.specs.Rolls.{is_full}
use Rattle.run_model.specs.Posts.{Post, posts_on, kth_posts, roll_by, place, filled, comms}
use Rattle.run_model.specs.Posts.{histories, outcome}
use Rattle.run_state.specs.declared.entered.Entered.{Entered}
use Rattle.run_state.specs.declared.entered.Entered.TheVariants.{Waiting, Settled}
use Rattle.run_model.specs.Contributions.{Contribution, contribution, posts_of, kth_parts, full_in}
use Rattle.run_state.specs.declared.seat.Seat.{Seat}
use Rattle.run_state.specs.Views.{PostStateValue, PostStateView, view_of}

-- how often the member of this rank has posted
abbrev pub arrivals_as : Option ℕ → (c : ℕ) → List Post → ℕ
arrivals_as (Some m) c posts = length (posts_on c m posts)
arrivals_as None c posts = 0

abbrev pub arrivals_in : Option Comm → (c rank : ℕ) → List Post → ℕ
arrivals_in (Some comm) c rank posts = arrivals_as (slice_get comm.members rank) c posts
arrivals_in None c rank posts = 0

-- an instance with these statements and parts waits if some member has posted and some has not
abbrev pub waiting_by : {X : Type 0} → Comm → List (Option Stated) → List (Option X) →
    Option (Instance X)
waiting_by comm stated parts = if is_begun stated && not (is_full stated)
    then Some (record { roll = roll_by comm stated; parts = parts }) else None

abbrev pub waiting_in : {X : Type 0} → Option Comm → (c k : ℕ) → List (Contribution X) →
    Option (Instance X)
waiting_in (Some comm) c k past =
    waiting_by comm (kth_posts comm c k (posts_of past)) (kth_parts comm c k past)
waiting_in None c k past = None

-- A state under a policy stands for the posts so far, the newest first: its communicators and
-- histories are theirs, and each instance that has begun and is not full waits as it is in them,
-- with the parts, and no other does.
pub record StandsForPosts {X : Type 0} (wall : ChineseWall) (seen : PostStateView X)
    (past : List (Contribution X)) : Type 0 where
  pub comms : seen.comms ≡ comms wall (posts_of past)
  pub histories : has seen.accesses ≡ histories wall (posts_of past)
  pub processes : seen.accesses.processes ≡ processes wall
  pub classes : seen.accesses.classes ≡ wall.classes
  pub arrivals : (c rank : ℕ) →
      seen.waiting.arrivals c rank ≡ arrivals_in (slice_get seen.comms c) c rank (posts_of past)
  pub pending : (c k : ℕ) → seen.waiting.pending c k ≡ waiting_in (slice_get seen.comms c) c k past
  -- nobody has posted on a communicator that is not there
  pub there : (c p : ℕ) → length seen.comms ≤ c → posts_on c p (posts_of past) ≡ []

-- what is told of the next post: the number of its instance; whether it fills the instance; and if
-- so, the full instance with all parts, and its outcome
abbrev pub Tells : {X : Type 0} → ChineseWall → Contribution X → List (Contribution X) → Entered X →
    Type 0
Tells wall g past (Waiting k) =
    (k ≡ place g.post (posts_of past))
    × (filled (comms wall (posts_of past)) g.post (posts_of past) ≡ None)
Tells wall g past (Settled full k o) =
    (k ≡ place g.post (posts_of past))
    × (filled (comms wall (posts_of past)) g.post (posts_of past) ≡ Some full.roll)
    × (full_in (comms wall (posts_of past)) g.post.comm k (g ∷ past) ≡ Some full)
    × (outcome wall g.post (posts_of past) ≡ Some o)
    × IsFit full.roll

-- This statement was entered at the seat with its part: a state that stood for some posts stands
-- for those with this one, and this is told of it.
abbrev pub Enters : {X : Type 0} → ChineseWall → (old new : PostStateValue X) → Seat → Stated → X →
    Entered X → Type 0
Enters {X} wall old new seat s part told = (past : List (Contribution X)) →
    StandsForPosts wall (view_of old) past →
    StandsForPosts wall (view_of new) (contribution seat.process seat.meeting.comm s part ∷ past)
    × Tells wall (contribution seat.process seat.meeting.comm s part) past told
