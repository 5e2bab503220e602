-- Takes in two steps: a look at what is due, and the close of a request whose outcome was told.
use Rattle.std.specs.Prelude.{◌≡◌, ℕ, ◌<◌, ◌+◌, List, ◌∷◌, Some, slice_get}
use Rattle.mpi_elems.specs.Contents.{Contents}
use Rattle.coll_values.specs.declared.full.Full.{Full}
use Rattle.coll_values.specs.Instances.{IsWhole}
use Rattle.coll_values.specs.Values.{value}
use Rattle.run_model.specs.Comms.{processes}
use Rattle.run_model.specs.declared.call.Call.{Call}
use Rattle.run_model.specs.declared.refusal.Refusal.TheVariants.{NoMemory}
use Rattle.run_model.specs.declared.reply.Reply.{Reply}
use Rattle.run_model.specs.declared.reply.Reply.TheVariants.{Delivered, Refused}
use Rattle.run_model.specs.Runs.{Entry, effects, entry, posts, requests}
use Rattle.run_model.specs.Replies.{Legal, reply_by_outcome}
use Rattle.hall_core.specs.declared.looks.Due.{Due}
use Rattle.hall_core.specs.declared.looks.Due.TheVariants as dues
use Rattle.hall_core.specs.declared.looks.Open.{Open}
use Rattle.hall_core.specs.declared.requests.Request.{Request}
use Rattle.hall_core.specs.declared.settled.Settlement.{Settlement}
use Rattle.hall_core.specs.Asking.{opened, open_for}
use Rattle.hall_core.specs.Claims.{to_take, IsClaimed, IsNoDelivery}
use Rattle.hall_core.specs.Halls.{HallValue, HallView, StandsFor, view_of}

-- With this reply to the call the run goes on legally, and the new hall stands for it.
abbrev pub GoesOn : (old new : HallValue) → Call → Reply → Type 0
GoesOn old new call got = (run : List Entry) → Legal old.policy run → StandsFor old run →
    Legal new.policy (entry call got ∷ run) × StandsFor new (entry call got ∷ run)

-- ## requests whose outcome is due

-- the request of p of that number
pub record IsOf (it : Open) (p request : ℕ) : Type 0 where
  pub process : it.process ≡ p
  pub number : it.request ≡ request

-- the instance that it is for
abbrev pub instance_for : Open → Request
instance_for it = record { comm = it.comm; k = it.k }

-- It is open, and so are so many others for its instance, of which this came.
pub record IsOpen (hall : HallView) (it : Open) (s : Settlement) : Type 0 where
  pub waits : opened (hall.asked it.process) it.request ≡ Some (instance_for it)
  pub came : hall.settled it.comm it.k ≡ Some s
  pub others : open_for hall.asked (processes hall.policy) it.comm it.k ≡ it.others + 1

-- It is open, its instance was filled, and a take of it is due this reply.
pub record IsDue (hall : HallView) (it : Open) (got : Reply) : Type 0 where
  pub outcome : Settlement
  pub is_open : IsOpen hall it outcome
  pub told : got ≡ reply_by_outcome it.process outcome.full (Some outcome.outcome)

-- ## what a look finds

-- the reply that is due
abbrev pub due_reply : Due → Reply
due_reply (dues.Told got) = got
due_reply (dues.Outcome got it) = got
due_reply (dues.Granted full rank it) = Delivered (value full.now rank)

-- What can be delivered to a rank: the instance is whole, and the rank is in it.
pub record CanDeliver (full : Full Contents) (rank : ℕ) : Type 0 where
  pub whole : IsWhole full
  pub low : rank < full.roll.shape.size

-- The request of p is due what this rank gets of this instance, which was granted as the run has
-- it; or it is told that there is no memory for that, and nothing is taken.
pub record IsGrant (hall : HallValue) (p request : ℕ) (full : Full Contents) (rank : ℕ) (it : Open)
    : Type 0 where
  pub of : IsOf it p request
  pub due : IsDue (view_of hall) it (Delivered (value full rank))
  pub can : CanDeliver full rank
  pub asked : (run : List Entry) → StandsFor hall run →
      slice_get (requests p (posts run)) request ≡ Some (it.comm, it.k)
  pub claimed : (run : List Entry) → StandsFor hall run →
      IsClaimed hall.policy (effects run) p request full rank
  pub wanting : GoesOn hall hall (to_take p request) (Refused NoMemory)

-- The request of p is due an outcome that is no delivery.
pub record IsOutcome (hall : HallView) (p request : ℕ) (got : Reply) (it : Open) : Type 0 where
  pub of : IsOf it p request
  pub due : IsDue hall it got
  pub no_delivery : IsNoDelivery got

-- A look at a request of p finds what a take of it is due.
abbrev pub Finds : HallValue → (p request : ℕ) → Due → Type 0
Finds hall p request (dues.Told got) = GoesOn hall hall (to_take p request) got
Finds hall p request (dues.Outcome got it) = IsOutcome (view_of hall) p request got it
Finds hall p request (dues.Granted full rank it) = IsGrant hall p request full.now rank it
