-- Instances that wait for members at the end of a book: who has posted for them, and who is
-- missing. (Own rule, in the words of posts.)
use Rattle.std.specs.Prelude.{◌≡◌, ◌⊎◌, ℕ, ◌<◌, ◌≤◌, List, length, slice_get, Contains, Option}
use Rattle.std.specs.Prelude.{Some, None}
use Rattle.wall_policy.specs.Policy.{ChineseWall}
use Rattle.run_model.specs.declared.entry.Entry.{Entry}
use Rattle.run_model.specs.Comms.{Comm}
use Rattle.run_model.specs.Posts.{posts_on, comms}
use Rattle.book_report.specs.declared.wait.Wait.{Wait}
use Rattle.book_report.specs.Held.{posts_to}
use Rattle.book_report.specs.Denials.{IsPartAt}

-- p has posted on c at most k times: none of its posts is for instance (c, k)
abbrev pub IsMissing : List Entry → (p c k : ℕ) → Type 0
IsMissing entries p c k = length (posts_on c p (posts_to entries (length entries))) ≤ k

-- it holds of some member
abbrev pub SomeMember : Comm → (ℕ → Type 0) → Type 0
SomeMember comm P = (i q : ℕ) × (slice_get comm.members i ≡ Some q) × P q

-- Instance (c, k) waits at the end: some member of c has posted for it, and some is missing. Its
-- member p has rank j.
pub record IsWaitingAt (wall : ChineseWall) (entries : List Entry) (c k j p : ℕ) : Type 0 where
  pub comm : Comm
  pub there : slice_get (comms wall (posts_to entries (length entries))) c ≡ Some comm
  pub begun : SomeMember comm (λ q. (n : ℕ) × IsPartAt entries n q c k)
  pub lacking : SomeMember comm (λ q. IsMissing entries q c k)
  pub member : slice_get comm.members j ≡ Some p

-- p has posted for the instance by this entry, or is missing
abbrev pub IsPosted : List Entry → (p c k : ℕ) → Option ℕ → Type 0
IsPosted entries p c k (Some n) = IsPartAt entries n p c k
IsPosted entries p c k None = IsMissing entries p c k

-- a member of an instance that waits, an entry that is a post for that, and the member's own, if it
-- has posted
pub record IsWait (wall : ChineseWall) (entries : List Entry) (it : Wait) : Type 0 where
  pub waits : IsWaitingAt wall entries it.comm it.k it.rank it.process
  pub begun : (q : ℕ) × IsPartAt entries it.begun q it.comm it.k
  pub posted : IsPosted entries it.process it.comm it.k it.posted

-- one of these is of this member
abbrev pub HasWait : List Wait → (c k j : ℕ) → Type 0
HasWait waits c k j =
    (it : Wait) × Contains waits it × (it.comm ≡ c) × (it.k ≡ k) × (it.rank ≡ j)

-- by communicator, instance and rank
abbrev pub IsSooner : (c k j d l i : ℕ) → Type 0
IsSooner c k j d l i = (c < d) ⊎ ((c ≡ d) × ((k < l) ⊎ ((k ≡ l) × (j < i))))

abbrev pub Precedes : Wait → Wait → Type 0
Precedes a b = IsSooner a.comm a.k a.rank b.comm b.k b.rank
