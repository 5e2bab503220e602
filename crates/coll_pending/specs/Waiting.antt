-- What contracts see of the instances that wait: look-ups by communicator, rank and number.
-- (MPI 4.1, section 6.12.)
use Rattle.std.specs.Prelude.{◌≡◌, ◌≢◌, ◌<◌, ◌⊎◌, ◌^◌, ℕ, ◌+◌, length, map, true, false, Option}
use Rattle.std.specs.Prelude.{Some, None, IsSome}
use Rattle.slab.specs.Slab.{HasRoomFor}
use Rattle.coll_routes.specs.declared.signature.Signature.{Signature}
use Rattle.coll_routes.specs.declared.statement.Stated.{Stated}
use Rattle.coll_pending.specs.declared.arrival.Arrived.{Arrived}
use Rattle.coll_pending.specs.declared.arrival.Arrived.TheVariants.{Waiting, Full}
use Rattle.coll_pending.specs.declared.arrival.Meeting.{Meeting}
use Rattle.coll_pending.specs.declared.arrival.Next.{Next}
use Rattle.coll_pending.specs.declared.arrival.Next.TheVariants.{Mismatch}
use Rattle.coll_pending.specs.declared.arrival.Next.TheVariants as nexts
use Rattle.coll_pending.specs.declared.arrival.ArrivalFault.{ArrivalFault}
use Rattle.coll_pending.specs.declared.arrival.ArrivalFault.TheVariants as faults
use Rattle.coll_routes.specs.Rolls.{is_full}
use Rattle.coll_pending.specs.Instances.{Instance, Communicator, joined, next_by, roll_in}
use Rattle.coll_pending.specs.Instances.{vacant, IsAgreed}
use Rattle.coll_pending.specs.Keyed.{updated}
use Rattle.coll_pending.specs.Lists.{fits, room_by}
use Rattle.coll_pending.specs.Queues.{Queue, Queues, queue_at, known_in, count_in, slot_of}
use Rattle.coll_pending.specs.Queues.{instance_in}
use Rattle.coll_pending.specs.Spares.{Spare, IsQueueOf, IsSlotFor, AreListsFor}

-- all that callers see but the room: how often a rank has arrived on a communicator; its k-th
-- instance with the parts that it has, if it waits for members; and the members and the shape of
-- the communicator, from its first arrival on
pub record PendingView (X : Type 0) : Type 0 where
  pub arrivals : (comm rank : ℕ) → ℕ
  pub pending : (comm k : ℕ) → Option (Instance X)
  pub known : (comm : ℕ) → Option Communicator

abbrev pub seen : {X : Type 0} → Queues X → PendingView X
seen s = record {
  arrivals = λ c rank. count_in (queue_at s.queues c) rank;
  pending = λ c k. instance_in (slot_of s c k);
  known = λ c. known_in (queue_at s.queues c);
}

-- the value of `Pending`, which only this crate looks into: callers see it by `view_of_pending` and
-- `HasRoom`
pub record State (X : Type 0) : Type 0 where
  pub queues : Queues X
  pub spare : Spare X

unfoldable pub view_of_pending : {X : Type 0} → State X → PendingView X
view_of_pending s = seen s.queues

-- ## what callers hand in

-- a communicator that has had an arrival is handed in with its members and its shape
abbrev pub IsKnownAs : Communicator → Option Communicator → Type 0
IsKnownAs comm (Some first) = first ≡ comm
IsKnownAs comm None = Unit {0}

-- ## what an arrival does

-- a table by two numbers, with one value written over
abbrev pub updated_at : {A : Type 0} → (ℕ → ℕ → A) → ℕ → ℕ → A → ℕ → ℕ → A
updated_at table c k x = updated table c (updated (table c) k x)

-- the number of the instance that the next arrival of a rank belongs to: its arrivals before (the
-- k-th of each member meet)
abbrev pub place : {X : Type 0} → PendingView X → (comm rank : ℕ) → ℕ
place seen c rank = seen.arrivals c rank

-- the instance that the next arrival of a rank meets
abbrev pub before : {X : Type 0} → PendingView X → (comm rank : ℕ) → Option (Instance X)
before seen c rank = seen.pending c (place seen c rank)

-- what the next arrival of a rank with this signature would do
abbrev pub next : {X : Type 0} → PendingView X → (comm rank : ℕ) → Signature → Next
next seen c rank sig = next_by (roll_in (before seen c rank)) rank sig

-- what a look finds for that arrival
abbrev pub meeting_of : {X : Type 0} → PendingView X → (comm rank : ℕ) → Signature → Meeting
meeting_of seen c rank sig =
    record { comm = c; rank = rank; k = place seen c rank; does = next seen c rank sig }

-- this is what a look finds, for an arrival with this signature
abbrev pub IsMeetingOf : {X : Type 0} → PendingView X → Signature → Meeting → Type 0
IsMeetingOf seen sig meeting = meeting ≡ meeting_of seen meeting.comm meeting.rank sig

-- the instance after that arrival
abbrev pub after : {X : Type 0} → PendingView X → (comm rank : ℕ) → Communicator → Stated → X →
    Instance X
after seen c rank comm stated part = joined comm rank stated part (before seen c rank)

-- an arrival that was accepted: the member's count rises, and the instance that it meets has its
-- statement and its part; the instance waits on, or, where all members have now posted, is handed
-- out and gone
pub record Arrives {X : Type 0} (old new : PendingView X) (c rank : ℕ) (comm : Communicator)
    (stated : Stated) (part : X) (waits : Option (Instance X)) : Type 0 where
  pub agrees : next old c rank stated.sig ≢ Mismatch
  pub arrivals : new.arrivals ≡ updated_at old.arrivals c rank (old.arrivals c rank + 1)
  pub known : new.known ≡ updated old.known c (Some comm)
  pub pending : new.pending ≡ updated_at old.pending c (place old c rank) waits

abbrev pub HasArrived : {X : Type 0} → (old new : PendingView X) → (comm rank : ℕ) → Communicator →
    Stated → X → Arrived X → Type 0
HasArrived old new c rank comm stated part Waiting =
    (is_full (after old c rank comm stated part).roll.stated ≡ false)
    × Arrives old new c rank comm stated part (Some (after old c rank comm stated part))
HasArrived old new c rank comm stated part (Full full) =
    (is_full (after old c rank comm stated part).roll.stated ≡ true)
    × (full.roll ≡ (after old c rank comm stated part).roll)
    × (map (λ p. Some p) full.parts ≡ (after old c rank comm stated part).parts)
    × IsAgreed full.roll
    × Arrives old new c rank comm stated part None

-- the fault of an arrival that is refused
abbrev pub fault_at : Next → ArrivalFault
fault_at Mismatch = faults.Mismatch
fault_at _ = faults.NoMemory

-- ## room

-- the queues take one instance more of a communicator
abbrev pub HasPlaceIn : Option Queue → Type 0
HasPlaceIn (Some q) = length q.keys < q.room
HasPlaceIn None = Unit {0}

pub record HasPlace {X : Type 0} (s : Queues X) (c : ℕ) : Type 0 where
  pub row : c < length s.queues
  pub slots : HasRoomFor s.slots 1
  pub queue : HasPlaceIn (queue_at s.queues c)

-- an instance of a communicator can be opened
pub record CanOpen {X : Type 0} (s : State X) (c : ℕ) (comm : Communicator) : Type 0 where
  pub place : HasPlace s.queues c
  pub queue : IsQueueOf comm (queue_at s.queues.queues c) s.spare.queue
  pub slot : IsSlotFor comm s.spare.slot
  pub lists : AreListsFor comm.shape s.spare.lists

-- the instance that the next arrival of a rank meets waits
abbrev pub Meets : {X : Type 0} → Queues X → (c rank : ℕ) → Communicator → Type 0
Meets s c rank comm =
    (known_in (queue_at s.queues c) ≡ Some comm)
    × IsSome (slot_of s c (count_in (queue_at s.queues c) rank))

-- room is made for the next arrival of a rank on a communicator
unfoldable pub HasRoom : {X : Type 0} → State X → (comm rank : ℕ) → Communicator → Type 0
HasRoom s c rank comm = Meets s.queues c rank comm ⊎ CanOpen s c comm

-- ## within the queues

abbrev pub known_as : {X : Type 0} → PendingView X → (c : ℕ) → Communicator → Type 0
known_as seen c comm = seen.known c ≡ Some comm

-- an instance of this signature has been opened, for which nobody has posted yet
pub record Opens {X : Type 0} (old new : PendingView X) (c k : ℕ) (comm : Communicator)
    (sig : Signature) : Type 0 where
  pub arrivals : new.arrivals ≡ old.arrivals
  pub known : new.known ≡ updated old.known c (Some comm)
  pub pending : new.pending ≡ updated_at old.pending c k (Some (vacant comm sig))

-- the rank is a member, and the instance that it meets waits and is of this signature
pub record CanArrive {X : Type 0} (s : Queues X) (c rank : ℕ) (comm : Communicator)
    (sig : Signature) : Type 0 where
  pub meets : Meets s c rank comm
  pub member : rank < length comm.members
  pub agrees : next (seen s) c rank sig ≢ Mismatch

-- a member can arrive at the instance that it meets, the k-th, which waits
pub record IsAwaited {X : Type 0} (s : Queues X) (meeting : Meeting) (sig : Signature) : Type 0
  where
    pub known : IsSome (known_in (queue_at s.queues meeting.comm))
    pub ready : (of : Communicator) → known_in (queue_at s.queues meeting.comm) ≡ Some of →
        CanArrive s meeting.comm meeting.rank of sig
    pub number : meeting.k ≡ count_in (queue_at s.queues meeting.comm) meeting.rank
    pub few : meeting.k < 2 ^ 62

-- and has arrived there
abbrev pub HasArrivedAt : {X : Type 0} → (old new : Queues X) → Meeting → Stated → X → Arrived X →
    Type 0
HasArrivedAt old new meeting stated part arrived =
    (of : Communicator) → known_in (queue_at old.queues meeting.comm) ≡ Some of →
    HasArrived (seen old) (seen new) meeting.comm meeting.rank of stated part arrived

-- the instance that the rank meets waits, and if it did not before it has been opened
abbrev pub IsOpened : {X : Type 0} → (old new : PendingView X) → (c rank : ℕ) → Communicator →
    Signature → Type 0
IsOpened old new c rank comm sig =
    (IsSome (before old c rank) × (known_as old c comm) × (new ≡ old))
    ⊎ ((before old c rank ≡ None) × Opens old new c (place old c rank) comm sig)

-- ## a member that arrives as a look told, in the words of `Pending`

-- it is a member of the communicator that is handed in, which is the one of the first arrival
pub record IsExpected {X : Type 0} (s : State X) (meeting : Meeting) (comm : Communicator)
    (sig : Signature) : Type 0 where
  pub met : IsMeetingOf (view_of_pending s) sig meeting
  pub rank : meeting.rank < length comm.members
  pub known : IsKnownAs comm ((view_of_pending s).known meeting.comm)

-- the instance that it meets now waits for it
pub record IsMet {X : Type 0} (old new : State X) (meeting : Meeting) (comm : Communicator)
    (sig : Signature) : Type 0 where
  pub opened :
      IsOpened (view_of_pending old) (view_of_pending new) meeting.comm meeting.rank comm sig
  pub meets : CanArrive new.queues meeting.comm meeting.rank comm sig

-- there is room for a member
pub record HasRoomAt {X : Type 0} (s : State X) (meeting : Meeting) (comm : Communicator) : Type 0
  where
    pub rank : meeting.rank < length comm.members
    pub room : HasRoom s meeting.comm meeting.rank comm

-- also for the lists of its signature, where an instance is opened
pub record HasAllRoom {X : Type 0} (s : State X) (meeting : Meeting) (comm : Communicator)
    (sig : Signature) : Type 0 where
  pub room : HasRoom s meeting.comm meeting.rank comm
  pub lists : meeting.does ≡ nexts.Opens → fits (room_by comm.shape) sig ≡ true
