-- The posts of members on a communicator, and how far a walk through the instances has come: words
-- of private contracts.
use Rattle.std.specs.Prelude.{◌≡◌, ℕ, ◌≤◌, List, length, slice_get, All, AllPairs, Some}
use Rattle.std.specs.Prelude.{Vec}
use Rattle.std.specs.Global.{Global}
use Rattle.wall_policy.specs.Policy.{ChineseWall}
use Rattle.run_model.specs.declared.entry.Entry.{Entry}
use Rattle.run_model.specs.Comms.{Comm}
use Rattle.run_model.specs.Posts.{posts_on, comms}
use Rattle.book_report.specs.declared.wait.Wait.{Wait}
use Rattle.book_report.specs.declared.waits.Meeting.{Meeting}
use Rattle.book_report.specs.declared.waits.Begun.{Begun}
use Rattle.book_report.specs.declared.waits.AtEnd.{AtEnd}
use Rattle.audit_book.specs.Checks.{Stands}
use Rattle.book_report.specs.Held.{posts_to}
use Rattle.book_report.specs.Denials.{IsPartAt}
use Rattle.book_report.specs.Waits.{IsWaitingAt, IsWait, HasWait, IsSooner, Precedes}

-- these are the entries of the posts of p on c among the first n, in their order
pub record AreTurns (entries : List Entry) (n p c : ℕ) (turns : List ℕ) : Type 0 where
  pub many : length turns ≡ length (posts_on c p (posts_to entries n))
  pub at : (k m : ℕ) → slice_get turns k ≡ Some m → IsPartAt entries m p c k

-- of each member of rank below j
pub record AreTurnsBelow (entries : List Entry) (c : ℕ) (members : List ℕ) (j : ℕ)
    (all : List (Vec ℕ Global)) : Type 0 where
  pub many : length all ≡ j
  pub each : (i p : ℕ) (turns : Vec ℕ Global) → slice_get members i ≡ Some p →
      slice_get all i ≡ Some turns → AreTurns entries (length entries) p c turns.items

abbrev pub AreTurnsOfAll : List Entry → (c : ℕ) → (members : List ℕ) → List (Vec ℕ Global) → Type 0
AreTurnsOfAll entries c members all = AreTurnsBelow entries c members (length members) all

-- n is the k-th of some member, counted from 0; some member has none such
abbrev pub IsTurn : List (Vec ℕ Global) → (k n : ℕ) → Type 0
IsTurn all k n = (i : ℕ) × (turns : Vec ℕ Global) × (slice_get all i ≡ Some turns)
    × (slice_get turns.items k ≡ Some n)

abbrev pub IsShort : List (Vec ℕ Global) → (k : ℕ) → Type 0
IsShort all k = (i : ℕ) × (turns : Vec ℕ Global) × (slice_get all i ≡ Some turns)
    × (length turns.items ≤ k)

-- the communicator is there at the end of the book, with these members, who have posted so
pub record IsMeeting (meeting : Meeting) : Type 0 where
  pub comm : Comm
  pub there : slice_get (comms meeting.policy.now
      (posts_to meeting.book.now.list (length meeting.book.now.list))) meeting.comm ≡ Some comm
  pub members : meeting.group.now ≡ comm.members
  pub turns : AreTurnsOfAll meeting.book.now.list meeting.comm meeting.group.now meeting.turns.now

-- these are of the members before rank j of instance (c, k), in their order
pub record AreWaitsTo (wall : ChineseWall) (entries : List Entry) (c k j : ℕ) (waits : List Wait)
    : Type 0 where
  pub sound : All (IsWait wall entries) waits
  pub early : All (λ (it : Wait). IsSooner it.comm it.k it.rank c k j) waits
  pub whole : (d l i p : ℕ) → IsSooner d l i c k j → IsWaitingAt wall entries d l i p →
      HasWait waits d l i
  pub rising : AllPairs Precedes waits

abbrev pub AreWaitsOn : Meeting → (k j : ℕ) → List Wait → Type 0
AreWaitsOn meeting k j waits =
    AreWaitsTo meeting.policy.now meeting.book.now.list meeting.comm k j waits

-- an instance of the communicator that waits; some member has posted for it by this entry
pub record IsBegun (begun : Begun) : Type 0 where
  pub meeting : IsMeeting begun.meeting
  pub turn : IsTurn begun.meeting.turns.now begun.k begun.entry
  pub short : IsShort begun.meeting.turns.now begun.k

-- the state stands for all posts of the book
abbrev pub IsAtEnd : AtEnd → Type 0
IsAtEnd end = Stands end.policy.now end.post_state.now
    (posts_to end.book.now.list (length end.book.now.list))

-- these are of the communicators below c
abbrev pub AreWaitsBelow : AtEnd → (c : ℕ) → List Wait → Type 0
AreWaitsBelow end c waits = AreWaitsTo end.policy.now end.book.now.list c 0 0 waits
