-- What contracts see of a state: look-ups, and what follows from them for the next post.
use Rattle.std.specs.Prelude.{◌≡◌, ◌≢◌, ◌≤◌, ℕ, List, Bool, true, false, not, length}
use Rattle.std.specs.Prelude.{slice_get, Option, Some, None, nat_lt, if◌then◌else◌}
use Rattle.std.specs.Option.{option_map}
use Rattle.wall_policy.specs.Policy.{ChineseWall}
use Rattle.wall_rules.specs.Histories.{Accesses, has}
use Rattle.mpi_elems.specs.declared.elem_type.ElemType.{ElemType}
use Rattle.mpi_group.specs.Groups.{rank_in}
use Rattle.coll_routes.specs.declared.signature.Signature.{Signature}
use Rattle.coll_routes.specs.declared.statement.Own.{Own}
use Rattle.coll_routes.specs.declared.fault.ShapeFault.{ShapeFault}
use Rattle.coll_routes.specs.declared.statement.Stated.{Stated}
use Rattle.coll_routes.specs.Faults.{shape_fault, stated_type}
use Rattle.coll_routes.specs.Fit.{IsSound}
use Rattle.coll_pending.specs.declared.arrival.Next.{Next}
use Rattle.coll_pending.specs.declared.arrival.Next.TheVariants as nexts
use Rattle.coll_pending.specs.Instances.{Instance, Communicator}
use Rattle.coll_pending.specs.Waiting.{PendingView, State, view_of_pending, next, IsKnownAs}
use Rattle.coll_pending.specs.Waiting.{IsMeetingOf}
use Rattle.wall_verdict.specs.Star.{star}
use Rattle.run_model.specs.Comms.{Comm, processes, shape_of}
use Rattle.run_model.specs.Refusals.{refused_for, or_else}
use Rattle.run_model.specs.declared.refusal.Refusal.{Refusal}
use Rattle.run_model.specs.declared.refusal.Refusal.TheVariants.{NoSuchProcess, NoSuchComm}
use Rattle.run_model.specs.declared.refusal.Refusal.TheVariants.{NotMember, Mismatch}
use Rattle.run_state.specs.declared.seat.Seat.{Seat}
use Rattle.run_state.specs.declared.seat.Terms.{Terms}

-- the value of a state in clauses
pub record PostStateValue (X : Type 0) : Type 0 where
  pub comms : List Comm
  pub lines : State X
  pub accesses : Accesses

-- all that callers see: the communicators, who has had access to what, and what has arrived and
-- waits
pub record PostStateView (X : Type 0) : Type 0 where
  pub comms : List Comm
  pub accesses : Accesses
  pub waiting : PendingView X

abbrev pub view_of : {X : Type 0} → PostStateValue X → PostStateView X
view_of kept =
    record { comms = kept.comms; accesses = kept.accesses; waiting = view_of_pending kept.lines }

-- what is seen of these parts
abbrev pub seen : {X : Type 0} → List Comm → State X → Accesses → PostStateView X
seen table lines accesses = view_of (record { comms = table; lines = lines; accesses = accesses })

abbrev pub communicator_of : Comm → Communicator
communicator_of comm = record { members = comm.members; shape = shape_of comm }

-- ## the next post

abbrev pub is_mismatch : Next → Bool
is_mismatch nexts.Opens = false
is_mismatch nexts.Joins = false
is_mismatch nexts.Fills = false
is_mismatch nexts.Mismatch = true

abbrev pub fault_after : Option ShapeFault → Next → Option Refusal
fault_after fault upcoming =
    or_else (option_map refused_for fault) (if is_mismatch upcoming then Some Mismatch else None)

abbrev pub fault_as : {X : Type 0} → PendingView X → (c : ℕ) → Comm → Option ℕ → Signature → Own →
    ElemType → (given : ℕ) → Option Refusal
fault_as waiting c comm None sig own ty given = Some NotMember
fault_as waiting c comm (Some rank) sig own ty given =
    fault_after (shape_fault (shape_of comm) rank sig own ty given) (next waiting c rank sig)

abbrev pub fault_on : {X : Type 0} → PendingView X → (p c : ℕ) → Option Comm → Signature → Own →
    ElemType → (given : ℕ) → Option Refusal
fault_on waiting p c None sig own ty given = Some NoSuchComm
fault_on waiting p c (Some comm) sig own ty given =
    fault_as waiting c comm (rank_in comm.members p) sig own ty given

abbrev pub fault_among : {X : Type 0} → (number : ℕ) → List Comm → PendingView X → (p c : ℕ) →
    Signature → Own → ElemType → (given : ℕ) → Option Refusal
fault_among number table waiting p c sig own ty given = if nat_lt p number
    then fault_on waiting p c (slice_get table c) sig own ty given else Some NoSuchProcess

-- the first refusal that holds of the next post of p on communicator c, by what is seen
abbrev pub fault_of : {X : Type 0} → ChineseWall → PostStateView X → (p c : ℕ) → Signature → Own →
    ElemType → (given : ℕ) → Option Refusal
fault_of wall seen p c sig own ty given =
    fault_among (processes wall) seen.comms seen.waiting p c sig own ty given

-- what a look finds of a post of this signature, by which its member states this for itself and
-- gives so many elements of this type, among these communicators: the process has this rank, the
-- post has no fault of its own, and it meets this, which is of its signature
pub record LookedAmong {X : Type 0} (table : List Comm) (waiting : PendingView X) (seat : Seat)
    (sig : Signature) (own : Own) (ty : ElemType) (given : ℕ) : Type 0 where
  pub comm : Comm
  pub there : slice_get table seat.meeting.comm ≡ Some comm
  pub rank : rank_in comm.members seat.process ≡ Some seat.meeting.rank
  pub faultless : shape_fault (shape_of comm) seat.meeting.rank sig own ty given ≡ None
  pub met : IsMeetingOf waiting sig seat.meeting
  pub agrees : seat.meeting.does ≢ nexts.Mismatch

abbrev pub LookedAt : {X : Type 0} → PostStateView X → Seat → Signature → Own → ElemType →
    (given : ℕ) → Type 0
LookedAt seen seat sig own ty given =
    LookedAmong seen.comms seen.waiting seat sig own ty given

-- it finds this seat for a post of these terms
abbrev pub IsSeatAmong : {X : Type 0} → List Comm → PendingView X → Terms → Seat → Type 0
IsSeatAmong table waiting terms seat =
    LookedAmong table waiting seat terms.sig.now terms.own.now terms.elem_type terms.given

abbrev pub IsSeatOf : {X : Type 0} → PostStateView X → Terms → Seat → Type 0
IsSeatOf seen terms seat = IsSeatAmong seen.comms seen.waiting terms seat

-- it finds this seat for this statement
abbrev pub IsSeatFor : {X : Type 0} → PostStateView X → Stated → Seat → Type 0
IsSeatFor seen s seat = LookedAt seen seat s.sig s.own (stated_type s.sig) s.given

-- the statement says whether the star rule bars it at this seat
abbrev pub TellsIfBarred : Accesses → Stated → Seat → Type 0
TellsIfBarred accesses s seat = s.barred ≡ not (star (has accesses) seat.process s.label)

-- ## what is so of every state

-- an instance of a communicator, whose statements it may have
pub record IsInstanceOf {X : Type 0} (comm : Comm) (instance : Instance X) : Type 0 where
  pub members : instance.roll.members ≡ comm.members
  pub shape : instance.roll.shape ≡ shape_of comm
  pub sound : IsSound instance.roll

-- nobody has arrived on a communicator
pub record IsUnused {X : Type 0} (waiting : PendingView X) (c : ℕ) : Type 0 where
  pub known : waiting.known c ≡ None
  pub pending : (k : ℕ) → waiting.pending c k ≡ None

-- instances are those of the communicators that are there
pub record IsPostState {X : Type 0} (seen : PostStateView X) : Type 0 where
  pub known : (c : ℕ) (comm : Comm) → slice_get seen.comms c ≡ Some comm →
      IsKnownAs (communicator_of comm) (seen.waiting.known c)
  pub sound : (c k : ℕ) (comm : Comm) (instance : Instance X) → slice_get seen.comms c ≡ Some comm →
      seen.waiting.pending c k ≡ Some instance → IsInstanceOf comm instance
  pub unused : (c : ℕ) → length seen.comms ≤ c → IsUnused seen.waiting c
