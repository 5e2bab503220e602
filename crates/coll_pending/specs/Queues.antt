-- How the instances that wait stand: each in a slot, found by the queue of its communicator.
use Rattle.std.specs.Prelude.{◌≡◌, ◌<◌, ◌≤◌, ◌+◌, ◌-◌, ◌==◌, ◌^◌, ℕ, List, [], ◌∷◌, ◌++◌, length}
use Rattle.std.specs.Prelude.{map, drop, replicate, slice_get, slice_set, slice_index_or, count_by}
use Rattle.std.specs.Prelude.{Bool, true, false, Option, Some, None, IsSome, IsSomeAnd, is_some}
use Rattle.std.specs.Prelude.{nat_lt, if◌then◌else◌}
use Rattle.slab.specs.Slab.{Slab, get, Updates}
use Rattle.coll_routes.specs.declared.roll.Shape.{Shape}
use Rattle.coll_routes.specs.declared.statement.Stated.{Stated}
use Rattle.coll_pending.specs.Instances.{Instance, Communicator, IsAgreed}
use Rattle.coll_pending.specs.declared.slot.Slot.{Slot}
use Rattle.coll_pending.specs.declared.arrival.Arrived.{Arrived}
use Rattle.coll_pending.specs.declared.arrival.Arrived.TheVariants.{Waiting, Full}

-- the members and the shape of a communicator; how often each has arrived; the number of its first
-- instance that waits; the key of the slot of that one and of each later one; and how many keys
-- there is room for
pub record Queue : Type 0 where
  pub members : List ℕ
  pub shape : Shape
  pub counts : List ℕ
  pub first : ℕ
  pub keys : List ℕ
  pub room : ℕ

-- for each communicator its queue, if it is known; and the slots of all instances
pub record Queues (X : Type 0) : Type 0 where
  pub queues : List (Option Queue)
  pub slots : Slab (Slot X)

-- ## look-ups

abbrev pub communicator : Queue → Communicator
communicator q = record { members = q.members; shape = q.shape }

abbrev pub count : Queue → ℕ → ℕ
count q rank = slice_index_or q.counts rank 0

-- the key of the instance of that number, if it waits
abbrev pub key_at : Queue → ℕ → Option ℕ
key_at q k = if nat_lt k q.first then None else slice_get q.keys (k - q.first)

abbrev pub queue_at : List (Option Queue) → ℕ → Option Queue
queue_at queues c = slice_index_or queues c None

abbrev pub known_in : Option Queue → Option Communicator
known_in (Some q) = Some (communicator q)
known_in None = None

abbrev pub count_in : Option Queue → ℕ → ℕ
count_in (Some q) rank = count q rank
count_in None rank = 0

abbrev pub key_in : Option Queue → ℕ → Option ℕ
key_in (Some q) k = key_at q k
key_in None k = None

abbrev pub slot_in : {X : Type 0} → Slab (Slot X) → Option ℕ → Option (Slot X)
slot_in slots (Some key) = get slots key
slot_in slots None = None

abbrev pub key_of : {X : Type 0} → Queues X → (c k : ℕ) → Option ℕ
key_of s c k = key_in (queue_at s.queues c) k

abbrev pub slot_of : {X : Type 0} → Queues X → (c k : ℕ) → Option (Slot X)
slot_of s c k = slot_in s.slots (key_of s c k)

abbrev pub instance_of : {X : Type 0} → Slot X → Instance X
instance_of slot = record { roll = slot.roll; parts = slot.parts }

abbrev pub instance_in : {X : Type 0} → Option (Slot X) → Option (Instance X)
instance_in (Some slot) = Some (instance_of slot)
instance_in None = None

-- ## one slot

-- which ranks have something in their row
abbrev pub marks : {A : Type 0} → List (Option A) → List Bool
marks rows = map (λ row. is_some row) rows

abbrev pub has_posted : {A : Type 0} → List (Option A) → ℕ → Bool
has_posted rows rank = is_some (slice_index_or rows rank None)

-- it counts its posts, and some member has not posted
pub record IsSlot {X : Type 0} (o : Slot X) : Type 0 where
  pub rows : length o.roll.stated ≡ length o.roll.members
  pub marked : marks o.parts ≡ marks o.roll.stated
  pub counted : o.arrived ≡ count_by is_some o.roll.stated
  pub missing : o.arrived < length o.roll.members
  pub agreed : IsAgreed o.roll

-- this rank is a member who has not posted
pub record IsFree {X : Type 0} (rank : ℕ) (o : Slot X) : Type 0 where
  pub slot : IsSlot o
  pub member : rank < length o.roll.members
  pub free : has_posted o.roll.stated rank ≡ false

-- no member has posted
pub record IsVacant {X : Type 0} (comm : Communicator) (o : Slot X) : Type 0 where
  pub members : o.roll.members ≡ comm.members
  pub shape : o.roll.shape ≡ comm.shape
  pub stated : o.roll.stated ≡ replicate (length comm.members) None
  pub parts : o.parts ≡ replicate (length comm.members) None
  pub arrived : o.arrived ≡ 0

-- the slot with the post of a rank
abbrev pub posted : {X : Type 0} → (rank : ℕ) → Stated → X → Slot X → Slot X
posted rank stated part o = record {
  roll = record {
    members = o.roll.members;
    shape = o.roll.shape;
    sig = o.roll.sig;
    stated = slice_set o.roll.stated rank (Some stated);
  };
  parts = slice_set o.parts rank (Some part);
  arrived = o.arrived + 1;
}

-- one post more, and each member has posted
abbrev pub lacks_one : {X : Type 0} → Slot X → Bool
lacks_one o = o.arrived + 1 == length o.roll.members

-- ## one queue

-- a communicator at which nobody has arrived
abbrev pub unused : Communicator → (room : ℕ) → Queue
unused comm room = record {
  members = comm.members;
  shape = comm.shape;
  counts = replicate (length comm.members) 0;
  first = 0;
  keys = [];
  room = room;
}

-- a rank has arrived once more
abbrev pub counted : Queue → ℕ → Queue
counted q rank = record q { counts = slice_set q.counts rank (count q rank + 1) }

-- one instance more waits
abbrev pub pushed : Queue → ℕ → Queue
pushed q key = record q { keys = q.keys ++ key ∷ [] }

-- the first instance no longer waits, and there is this room
abbrev pub popped : Queue → (room : ℕ) → Queue
popped q room = record q { first = q.first + 1; keys = drop 1 q.keys; room = room }

-- the queue that is there, or else the one handed in
abbrev pub or_fresh : Option Queue → Option Queue → Option Queue
or_fresh (Some q) fresh = Some q
or_fresh None fresh = fresh

-- the same queue or none, with another room
abbrev pub IsRoomier : (old new : Option Queue) → Type 0
IsRoomier (Some q) new = IsSomeAnd new (λ p. p ≡ record q { room = p.room })
IsRoomier None new = new ≡ None

-- ## a post

-- of this slot it can be told what the next post of a rank does
pub record CanTell {X : Type 0} (rank : ℕ) (o : Slot X) : Type 0 where
  pub slot : IsSlot o
  pub free : rank < length o.roll.members → has_posted o.roll.stated rank ≡ false

-- this rank is a member, and the instance that it meets, the k-th, waits
pub record CanPost {X : Type 0} (q : Queue) (slots : Slab (Slot X)) (rank k : ℕ) : Type 0 where
  pub member : rank < length q.counts
  pub number : k ≡ count q rank
  pub few : k < 2 ^ 62
  pub low : q.first < 2 ^ 62
  pub waits : IsSomeAnd (slot_in slots (key_at q k)) (IsFree rank)

-- a post of this rank is entered in the slots: the key of its slot is told if it was the last one
abbrev pub Enters : {X : Type 0} → Queue → (slots slots' : Slab (Slot X)) → (rank : ℕ) → Stated →
    X → (last : Option ℕ) → Type 0
Enters {X} q slots slots' rank stated part last =
    (key : ℕ) (o : Slot X) → key_at q (count q rank) ≡ Some key → get slots key ≡ Some o →
    (last ≡ (if lacks_one o then Some key else None))
    × Updates slots slots' key (Some (posted rank stated part o))

-- what a post makes of a queue and of the slots, where the instance has this key and this slot
abbrev pub Posts : {X : Type 0} → (old new : Queue) → (slots slots' : Slab (Slot X)) →
    (key rank : ℕ) → Stated → X → Slot X → Arrived X → Type 0
Posts old new slots slots' key rank stated part o Waiting =
    (lacks_one o ≡ false)
    × (new ≡ counted old rank)
    × Updates slots slots' key (Some (posted rank stated part o))
Posts old new slots slots' key rank stated part o (Full full) =
    (lacks_one o ≡ true)
    × (full.roll ≡ (posted rank stated part o).roll)
    × (map (λ p. Some p) full.parts ≡ (posted rank stated part o).parts)
    × (new ≡ popped (counted old rank) new.room)
    × Updates slots slots' key None

abbrev pub PostsTo : {X : Type 0} → (old new : Queue) → (slots slots' : Slab (Slot X)) →
    (rank : ℕ) → Stated → X → Arrived X → Type 0
PostsTo {X} old new slots slots' rank stated part arrived =
    (key : ℕ) (o : Slot X) → key_at old (count old rank) ≡ Some key → get slots key ≡ Some o →
    Posts old new slots slots' key rank stated part o arrived

-- ## what is so of all

-- each member has arrived at all instances before the first that waits, and at none after the last
pub record IsQueue (members counts : List ℕ) (first waiting : ℕ) : Type 0 where
  pub sized : length counts ≡ length members
  pub low : (r : ℕ) → r < length members → first ≤ slice_index_or counts r 0
  pub high : (r : ℕ) → r < length members → slice_index_or counts r 0 ≤ first + waiting

abbrev pub IsQueueIn : Option Queue → Type 0
IsQueueIn (Some q) = IsQueue q.members q.counts q.first (length q.keys)
IsQueueIn None = Unit {0}

-- the k-th instance of a communicator: who has arrived more than k times has posted to it
pub record IsOf {X : Type 0} (comm : Communicator) (counts : List ℕ) (k : ℕ) (o : Slot X) : Type
    0 where
  pub slot : IsSlot o
  pub members : o.roll.members ≡ comm.members
  pub shape : o.roll.shape ≡ comm.shape
  pub posted : (r : ℕ) → r < length comm.members →
      has_posted o.roll.stated r ≡ nat_lt k (slice_index_or counts r 0)

abbrev pub IsOfIn : {X : Type 0} → Option Queue → (k : ℕ) → Slot X → Type 0
IsOfIn (Some q) k o = IsOf (communicator q) q.counts k o
IsOfIn None k o = ⊥

-- each key leads to a slot, no two to one, and the slot has what the members have posted
pub record IsQueues {X : Type 0} (s : Queues X) : Type 0 where
  pub queue : (c : ℕ) → IsQueueIn (queue_at s.queues c)
  pub stand : (c k key : ℕ) → key_of s c k ≡ Some key → IsSome (get s.slots key)
  pub one : (c k d l key : ℕ) → key_of s c k ≡ Some key → key_of s d l ≡ Some key → (c ≡ d)
      × (k ≡ l)
  pub sound : (c k : ℕ) (o : Slot X) → slot_of s c k ≡ Some o → IsOfIn (queue_at s.queues c) k o
