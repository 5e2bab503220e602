-- A member's next post, before it is counted.
use Rattle.std.specs.Prelude.{◌≡◌, ◌≢◌, ◌<◌, ◌++◌, ◌==◌, ◌&&◌, ℕ, List, Bool, true, false, length}
use Rattle.std.specs.Prelude.{map, replicate, slice_get, slice_set, Option, Some, None, IsSome}
use Rattle.std.specs.Prelude.{if◌then◌else◌}
use Rattle.mpi_comm.specs.declared.values.Ask.{Ask}
use Rattle.mpi_cart.specs.Grids.{below}
use Rattle.coll_routes.specs.declared.statement.Own.{Own}
use Rattle.coll_routes.specs.declared.statement.Stated.{Stated}
use Rattle.coll_routes.specs.declared.roll.Roll.{Roll}
use Rattle.coll_routes.specs.Signatures.{is_constructor}
use Rattle.coll_routes.specs.Rolls.{stated_by}
use Rattle.coll_routes.specs.Faults.{stated_fault}
use Rattle.coll_routes.specs.Fit.{IsSized}
use Rattle.coll_pending.specs.declared.arrival.Next.{Next}
use Rattle.coll_pending.specs.declared.arrival.Next.TheVariants.{Opens, Joins, Fills, Mismatch}
use Rattle.coll_pending.specs.Instances.{Instance, roll_in}
use Rattle.coll_pending.specs.declared.arrival.Meeting.{Meeting}
use Rattle.coll_pending.specs.Waiting.{PendingView, next, before, IsMeetingOf}
use Rattle.run_model.specs.Comms.{Comm, shape_of, ask_by, ask_in, new_comms, added}
use Rattle.coll_routes.specs.Rolls.{is_full}
use Rattle.run_model.specs.Posts.{constructor_outcome, if_full}
use Rattle.run_model.specs.declared.outcome.Outcome.{Outcome}
use Rattle.run_state.specs.Views.{IsInstanceOf, communicator_of}

-- the post of this rank of the communicator can be counted
pub record IsNext {X : Type 0} (waiting : PendingView X) (c rank : ℕ) (comm : Comm)
    (stated : Stated) : Type 0 where
  pub member : rank < length comm.members
  pub sized : IsSized (shape_of comm)
  pub known : Rattle.coll_pending.specs.Waiting.IsKnownAs (communicator_of comm) (waiting.known c)
  pub sound : (instance : Instance X) → before waiting c rank ≡ Some instance →
      IsInstanceOf comm instance
  pub agrees : next waiting c rank stated.sig ≢ Mismatch
  pub faultless : stated_fault (shape_of comm) rank stated ≡ None
  pub labelled : stated.barred ≡ true → IsSome stated.label

-- a look told this of a post, which can be counted
pub record IsUpcoming {X : Type 0} (table : List Comm) (waiting : PendingView X)
    (meeting : Meeting) (stated : Stated) : Type 0 where
  pub there : meeting.comm < length table
  pub met : IsMeetingOf waiting stated.sig meeting
  pub upcoming : (found : Comm) → slice_get table meeting.comm ≡ Some found →
      IsNext waiting meeting.comm meeting.rank found stated

-- the roll of its instance, with it
abbrev pub roll_with : Comm → (rank : ℕ) → Stated → Option Roll → Roll
roll_with comm rank stated (Some roll) = record {
  members = roll.members;
  shape = roll.shape;
  sig = roll.sig;
  stated = slice_set roll.stated rank (Some stated);
}
roll_with comm rank stated None = record {
  members = comm.members;
  shape = shape_of comm;
  sig = stated.sig;
  stated = slice_set (replicate (length comm.members) None) rank (Some stated);
}

abbrev pub roll_next : {X : Type 0} → PendingView X → (c rank : ℕ) → Comm → Stated → Roll
roll_next waiting c rank comm stated = roll_with comm rank stated (roll_in (before waiting c rank))

-- an arrival that does this is the last one of an instance of so many members
abbrev pub is_last : Next → (size : ℕ) → Bool
is_last Opens size = size == 1
is_last Joins size = false
is_last Fills size = true
is_last Mismatch size = false

-- what the members ask: this rank by what it states for itself, the others by what they have stated
abbrev pub stated_in : Option Roll → (rank : ℕ) → Option Stated
stated_in (Some roll) k = stated_by roll k
stated_in None k = None

abbrev pub ask_of : Option Roll → (rank : ℕ) → Own → (k : ℕ) → Ask
ask_of roll rank own k = if k == rank then ask_by own else ask_in (stated_in roll k)

abbrev pub asks_with : Option Roll → (size rank : ℕ) → Own → List Ask
asks_with roll size rank own = map (ask_of roll rank own) (below size)

-- the outcome of a constructor if this is its roll and it is full, where so many communicators are
-- there
abbrev pub constructed : (count : ℕ) → Roll → Option Outcome
constructed count roll = if is_constructor roll.sig && is_full roll.stated
    then Some (constructor_outcome count (new_comms roll)) else None

-- what has been made for it, if it fills a constructor: this is its outcome, and the communicators
-- have grown
pub record IsPrepared (old new : List Comm) (answer : Option Outcome) (roll : Roll) : Type 0 where
  pub outcome : answer ≡ constructed (length old) roll
  pub comms : new ≡ old ++ added (length old) (if_full roll)

-- and so for the post of which a look told this
abbrev pub IsMade : {X : Type 0} → (old new : List Comm) → PendingView X → Meeting → Stated →
    Option Outcome → Type 0
IsMade old new waiting meeting stated made =
    (found : Comm) → slice_get old meeting.comm ≡ Some found →
    IsPrepared old new made (roll_next waiting meeting.comm meeting.rank found stated)
