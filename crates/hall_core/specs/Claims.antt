-- Claims: takes that leave the filling to their caller.
use Rattle.std.specs.Prelude.{◌≡◌, ◌≢◌, ℕ, ◌<◌, Some, slice_get}
use Rattle.std.specs.Arc.{arc_value}
use Rattle.wall_policy.specs.Policy.{ChineseWall}
use Rattle.mpi_elems.specs.Contents.{Contents}
use Rattle.mpi_group.specs.Groups.{rank_in}
use Rattle.coll_values.specs.declared.full.Full.{Full}
use Rattle.coll_values.specs.Instances.{IsWhole}
use Rattle.coll_values.specs.Spaces.{Space}
use Rattle.coll_values.specs.Rooms.{space_for}
use Rattle.coll_values.specs.Values.{value}
use Rattle.run_model.specs.declared.outcome.Outcome.TheVariants.{Granted}
use Rattle.run_model.specs.Posts.{outcome_at}
use Rattle.run_model.specs.Contributions.{full_at}
use Rattle.run_model.specs.declared.call.Call.{Call}
use Rattle.run_model.specs.declared.call.Act.TheVariants.{Take}
use Rattle.run_model.specs.declared.reply.Reply.{Reply}
use Rattle.run_model.specs.declared.reply.Reply.TheVariants.{Posted, Barred, Pending, Delivered}
use Rattle.run_model.specs.declared.reply.Reply.TheVariants.{NewComm, NullComm, Denied, NoRoom}
use Rattle.run_model.specs.declared.reply.Reply.TheVariants.{Info, Refused}
use Rattle.run_model.specs.Runs.{Entry, Effects, effects, requests, entry}
use Rattle.run_model.specs.Buffers.{SameInstanceButForRoom}
use Rattle.run_model.specs.Replies.{posts_made, comm_at}
use Rattle.hall_core.specs.declared.claims.Claim.{Claim}
use Rattle.hall_core.specs.declared.claims.Claim.TheVariants.{Done, Ready}
use Rattle.hall_core.specs.declared.requests.Request.{Request}
use Rattle.hall_core.specs.declared.settled.Settlement.{Settlement}
use Rattle.hall_core.specs.Asking.{opened}
use Rattle.hall_core.specs.Halls.{HallView, settlement}

-- the call of a take
abbrev pub to_take : (p request : ℕ) → Call
to_take p request = record { process = p; act = Take request }

-- the reply that a claim comes to
abbrev pub claim_reply : Claim → Reply
claim_reply (Done reply) = reply
claim_reply (Ready full rank room) = Delivered (value (arc_value full) rank)

-- the entry of a claim: the take, with that reply
abbrev pub claim_entry : (p request : ℕ) → Claim → Entry
claim_entry p request claim = entry (to_take p request) (claim_reply claim)

-- What filling asks: the instance is whole, the rank is in it, and the room is for that rank's
-- blocks, none of them filled.
pub record CanFill (full : Full Contents) (rank : ℕ) (room : Space) : Type 0 where
  pub whole : IsWhole full
  pub low : rank < full.roll.shape.size
  pub is_room : room ≡ space_for full rank

-- the claim may be finished
abbrev pub CanFinish : Claim → Type 0
CanFinish (Done reply) = Unit {0}
CanFinish (Ready full rank room) = CanFill (arc_value full) rank room

abbrev pub IsNoDelivery : Reply → Type 0
IsNoDelivery (Delivered delivery) = ⊥
IsNoDelivery (Posted request) = Unit {0}
IsNoDelivery (Barred request label) = Unit {0}
IsNoDelivery Pending = Unit {0}
IsNoDelivery (NewComm comm rank size) = Unit {0}
IsNoDelivery NullComm = Unit {0}
IsNoDelivery (Denied rule process label) = Unit {0}
IsNoDelivery NoRoom = Unit {0}
IsNoDelivery (Info size rank dims) = Unit {0}
IsNoDelivery (Refused refusal) = Unit {0}

-- ## what a claim holds

-- p's request is for this instance, which was granted, and in it p has this rank. Its buffers may
-- have other room than those that the members handed in.
pub record IsClaimed (wall : ChineseWall) (effects : Effects) (p request : ℕ) (full : Full Contents)
    (rank : ℕ) : Type 0 where
  pub comm : ℕ
  pub k : ℕ
  pub asked : slice_get (requests p (posts_made effects)) request ≡ Some (comm, k)
  pub granted : outcome_at wall comm k (posts_made effects) ≡ Some Granted
  pub is_full : SameInstanceButForRoom full
      (full_at (comm_at wall (posts_made effects) comm) comm k effects.contributions)
  pub is_member : rank_in full.roll.members p ≡ Some rank

-- A claim of p for its request is ready, and holds the instance as the run has it and p's rank in
-- it; or it is done, with a reply that is no delivery.
abbrev pub Claims : ChineseWall → Effects → (p request : ℕ) → Claim → Type 0
Claims wall effects p request (Done reply) = IsNoDelivery reply
Claims wall effects p request (Ready full rank room) =
    IsClaimed wall effects p request (arc_value full) rank

-- ## the same of what is kept

-- what such a claim holds stands in the hall
pub record IsHeld (hall : HallView) (p request : ℕ) (full : Full Contents) (rank : ℕ) : Type 0 where
  pub asked : Request
  pub waits : opened (hall.asked p) request ≡ Some asked
  pub granted : hall.settled asked.comm asked.k ≡ Some (settlement full Granted)
  pub is_member : rank_in full.roll.members p ≡ Some rank

abbrev pub HoldsWhatIsKept : HallView → (p request : ℕ) → Claim → Type 0
HoldsWhatIsKept hall p request (Done reply) = IsNoDelivery reply
HoldsWhatIsKept hall p request (Ready shared rank room) =
    IsHeld hall p request (arc_value shared) rank

-- p's request is open, and its instance was filled and not granted
pub record IsUngranted (hall : HallView) (p request : ℕ) : Type 0 where
  pub asked : Request
  pub waits : opened (hall.asked p) request ≡ Some asked
  pub outcome : Settlement
  pub came : hall.settled asked.comm asked.k ≡ Some outcome
  pub other : outcome.outcome ≢ Granted

-- the claim has this instance, and the rank in it of p
abbrev pub HoldsShare : (p : ℕ) → Full Contents → Claim → Type 0
HoldsShare p full (Done reply) = ⊥
HoldsShare p full (Ready shared rank room) =
    (arc_value shared ≡ full) × (rank_in full.roll.members p ≡ Some rank)
