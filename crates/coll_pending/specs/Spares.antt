-- What is made before an arrival, so that it takes no memory.
use Rattle.std.specs.Prelude.{◌≡◌, ◌<◌, ◌≤◌, Option, Some, None, IfSome}
use Rattle.coll_routes.specs.declared.roll.Shape.{Shape}
use Rattle.coll_pending.specs.Instances.{Communicator}
use Rattle.coll_pending.specs.Lists.{ListRoom, room_by}
use Rattle.coll_pending.specs.Queues.{Queue, unused, communicator, IsVacant}
use Rattle.coll_pending.specs.declared.slot.Slot.{Slot}

-- a queue for a communicator that is not known yet, a slot for an instance, and room for lists
pub record Spare (X : Type 0) : Type 0 where
  pub queue : Option Queue
  pub slot : Option (Slot X)
  pub lists : ListRoom

abbrev pub members_of : {X : Type 0} → Slot X → Communicator
members_of o = record { members = o.roll.members; shape = o.roll.shape }

-- at the queue nobody has arrived, and in the slot nobody has posted
pub record IsSpare {X : Type 0} (spare : Spare X) : Type 0 where
  pub queue : IfSome spare.queue (λ q. (q ≡ unused (communicator q) q.room) × (0 < q.room))
  pub slot : IfSome spare.slot (λ o. IsVacant (members_of o) o)

abbrev pub IsQueueFor : Communicator → Option Queue → Type 0
IsQueueFor comm (Some q) = (q ≡ unused comm q.room) × (0 < q.room)
IsQueueFor comm None = ⊥

abbrev pub IsSlotFor : {X : Type 0} → Communicator → Option (Slot X) → Type 0
IsSlotFor comm (Some o) = IsVacant comm o
IsSlotFor comm None = ⊥

-- the queue that is there is of the communicator, or else the one handed in is
abbrev pub IsQueueOf : Communicator → (there fresh : Option Queue) → Type 0
IsQueueOf comm (Some q) fresh = communicator q ≡ comm
IsQueueOf comm None fresh = IsQueueFor comm fresh

-- as much room for lists as a signature on a communicator of this shape may need
pub record AreListsFor (shape : Shape) (lists : ListRoom) : Type 0 where
  pub numbers : (room_by shape).numbers ≤ lists.numbers
  pub flags : (room_by shape).flags ≤ lists.flags
