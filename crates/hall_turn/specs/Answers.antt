-- What a call at a door does to the pass. (Own rules.)
use Rattle.std.specs.Prelude.{◌≡◌, ◌↔◌, ℕ, ◌^◌, ◌≤◌, List, [], ◌∷◌, length, map, Bool, true, false}
use Rattle.std.specs.Prelude.{IsTrue, Option, is_some}
use Rattle.run_model.specs.declared.call.Act.{Act}
use Rattle.mpi_cart.specs.Grids.{below}
use Rattle.run_model.specs.Runs.{Entry, entry}
use Rattle.run_model.specs.Known.{IsKnownReply}
use Rattle.wall_policy.specs.Policy.{ChineseWall}
use Rattle.hall_core.specs.Claims.{claim_reply, claim_entry, CanFinish}
use Rattle.hall_turn.specs.declared.answer.Claimed.{Claimed}
use Rattle.hall_turn.specs.declared.answer.Claimed.TheVariants as claimed
use Rattle.hall_turn.specs.declared.answer.Answer.{Answer}
use Rattle.hall_turn.specs.declared.answer.Answer.TheVariants.{Reply as Replied, Exhausted}
use Rattle.hall_turn.specs.Runs.{Continues, calls_of}
use Rattle.hall_turn.specs.Receipts.{Covered}
use Rattle.hall_turn.specs.Known.{Doorway, Known}
use Rattle.hall_turn.specs.Machines.{ClaimsAfter, Settles}

-- the pass of a process at a new door
abbrev pub new_pass : Doorway → (process : ℕ) → Known
new_pass door process =
    record { door = door; process = process; seen = []; settled = false; booked = true }

-- the passes of so many processes, in order
abbrev pub new_passes : Doorway → (processes : ℕ) → List Known
new_passes door processes = map (new_pass door) (below processes)

-- it is the same pass, whatever it has seen since
abbrev pub IsSamePass : (before after : Known) → Type 0
IsSamePass before after = (after.door ≡ before.door) × (after.process ≡ before.process)

-- the run seen after begins with the run seen before, and has no new call of the process
pub record SeesOn (before after : Known) : Type 0 where
  pub begins : Continues after.seen before.seen
  pub own : calls_of before.process after.seen ≡ calls_of before.process before.seen

-- the run seen after begins with the run seen before, and ends with this entry, which is its one
-- new call of the process
pub record Enters (before : Known) (new : Entry) (after : Known) : Type 0 where
  pub front : List Entry
  pub ends : after.seen ≡ new ∷ front
  pub begins : Continues front before.seen
  pub own : calls_of before.process after.seen ≡ new ∷ calls_of before.process before.seen

-- the run seen after ends with this entry, and this is so of the run before it
pub record EntersAnd (before : Known) (new : Entry) (IsSoOf : List Entry → Type 0) (after : Known)
    : Type 0 where
  pub enters : Enters before new after
  pub so : IsSoOf enters.front

-- the door is exhausted after 2^62 turns, and the pass has looked
abbrev pub IsTooLate : (before after : Known) → Type 0
IsTooLate before after = SeesOn before after × (2 ^ 62 ≤ length after.seen)

-- the call was made and got this reply; or the door is exhausted
abbrev pub Answered : (before : Known) → Act → Answer → (after : Known) → Type 0
Answered before act (Replied reply) after =
    Enters before (entry (record { process = before.process; act = act }) reply) after
Answered before act Exhausted after = IsTooLate before after

-- the pass says of its call, which made the newest entry that it has seen, whether that settled an
-- instance
abbrev pub SaysWhether : Known → Type 0
SaysWhether after = (e : Entry) (run : List Entry) → after.seen ≡ e ∷ run →
    IsTrue after.settled ↔ Settles after.door.policy run e

-- so it says where the call was made; where it was not, it says what it said before
abbrev pub SaysOf : (before : Known) → Answer → (after : Known) → Type 0
SaysOf before (Replied reply) after = SaysWhether after
SaysOf before Exhausted after = after.settled ≡ before.settled

module _ {M : Type 0} (stands : ChineseWall → M → List Entry → Type 0)
    (booked : M → Option Covered) where
  -- There is the machine as it was at the end of the turn that made the newest entry which the
  -- pass has seen: it stands for exactly what the pass has seen, the pass says whether it was
  -- booked, and this is so of what a receipt of it covered then, if it was.
  abbrev pub GivesNoted : Known → (IsNoted : Option Covered → Type 0) → Type 0
  GivesNoted after IsNoted = (machine : M) × stands after.door.policy machine after.seen
      × (after.booked ≡ is_some (booked machine)) × IsNoted (booked machine)

  -- it gave a receipt that covers this then, if it was booked
  abbrev pub Gives : Known → (receipt : Option Covered) → Type 0
  Gives after receipt = GivesNoted after (λ covered. receipt ≡ covered)

  -- so it was where the call was made; where it was not, the pass says what it said before, and
  -- there is the receipt that there was
  abbrev pub GivesAt : (before : Known) → Answer → (after : Known) →
      (old new : Option Covered) → Type 0
  GivesAt before (Replied reply) after old new = Gives after new
  GivesAt before Exhausted after old new = (after.booked ≡ before.booked) × (new ≡ old)

  -- the same of whatever is noted
  abbrev pub NotesAt : {N : Type 0} → (N → Option Covered → Type 0) → (before : Known) → Answer →
      (after : Known) → (old new : N) → Type 0
  NotesAt notes before (Replied reply) after old new = GivesNoted after (notes new)
  NotesAt notes before Exhausted after old new = (after.booked ≡ before.booked) × (new ≡ old)

  -- the pass says whether the machine was booked
  abbrev pub SaysBooked : Known → Type 0
  SaysBooked after = (machine : M) × stands after.door.policy machine after.seen
      × (after.booked ≡ is_some (booked machine))

  -- so it says where the call was made; where it was not, it says what it said before
  abbrev pub StoodAt : (before : Known) → Answer → (after : Known) → Type 0
  StoodAt before (Replied reply) after = SaysBooked after
  StoodAt before Exhausted after = after.booked ≡ before.booked

-- the processes and labels that the answer names are the policy's
abbrev pub NamesKnown : ChineseWall → Answer → Type 0
NamesKnown wall (Replied reply) = IsKnownReply wall reply
NamesKnown wall Exhausted = Unit {0}

-- ## claims

-- The claim was made: it comes to the reply of the new entry, and what it holds is that of the run
-- before that entry. Or the door is exhausted.
abbrev pub ClaimAnswered : (before : Known) → (request : ℕ) → Claimed → (after : Known) → Type 0
ClaimAnswered before request (claimed.Claim claim) after =
    EntersAnd before (claim_entry before.process request claim)
    (λ run. ClaimsAfter before.door.policy run before.process request claim) after
ClaimAnswered before request claimed.Exhausted after = IsTooLate before after

-- the pass says of the claim what it says of a call
abbrev pub SaysOfClaim : (before : Known) → Claimed → (after : Known) → Type 0
SaysOfClaim before (claimed.Claim claim) after = SaysWhether after
SaysOfClaim before claimed.Exhausted after = after.settled ≡ before.settled

-- and so of the machine
abbrev pub ClaimStoodAt : {M : Type 0} → (ChineseWall → M → List Entry → Type 0)
    → (M → Option Covered) → (before : Known) → Claimed → (after : Known) → Type 0
ClaimStoodAt stands booked before (claimed.Claim claim) after = SaysBooked stands booked after
ClaimStoodAt stands booked before claimed.Exhausted after = after.booked ≡ before.booked

-- and of its receipt, or whatever is noted
abbrev pub ClaimNotesAt : {M N : Type 0} → (ChineseWall → M → List Entry → Type 0)
    → (M → Option Covered) → (N → Option Covered → Type 0) → (before : Known) → Claimed
    → (after : Known) → (old new : N) → Type 0
ClaimNotesAt stands booked notes before (claimed.Claim claim) after old new =
    GivesNoted stands booked after (notes new)
ClaimNotesAt stands booked notes before claimed.Exhausted after old new =
    (after.booked ≡ before.booked) × (new ≡ old)

abbrev pub ClaimGivesAt : {M : Type 0} → (ChineseWall → M → List Entry → Type 0)
    → (M → Option Covered) → (before : Known) → Claimed → (after : Known)
    → (old new : Option Covered) → Type 0
ClaimGivesAt stands booked before (claimed.Claim claim) after old new =
    Gives stands booked after new
ClaimGivesAt stands booked before claimed.Exhausted after old new =
    (after.booked ≡ before.booked) × (new ≡ old)

-- a claim that was made may be finished
abbrev pub MayFinish : Claimed → Type 0
MayFinish (claimed.Claim claim) = CanFinish claim
MayFinish claimed.Exhausted = Unit {0}

abbrev pub ClaimNamesKnown : ChineseWall → Claimed → Type 0
ClaimNamesKnown wall (claimed.Claim claim) = IsKnownReply wall (claim_reply claim)
ClaimNamesKnown wall claimed.Exhausted = Unit {0}
