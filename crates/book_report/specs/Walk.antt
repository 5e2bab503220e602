-- How far a walk through a book has come: words of private contracts.
use Rattle.std.specs.Prelude.{◌≡◌, ℕ, ◌+◌, ◌≤◌, ◌-◌, ◌&&◌, ◌||◌, nat_eq, Bool, true, false, List}
use Rattle.std.specs.Prelude.{length, slice_get, All, AllPairs, Some, None}
use Rattle.wall_labels.specs.Limits.{process_limit}
use Rattle.wall_labels.specs.declared.label.Label.TheVariants.{Of}
use Rattle.wall_policy.specs.Policy.{ChineseWall}
use Rattle.wall_rules.specs.Histories.{History, has_in}
use Rattle.coll_routes.specs.declared.roll.Roll.{Roll}
use Rattle.coll_routes.specs.declared.statement.Stated.{Stated}
use Rattle.coll_routes.specs.Rolls.{label_of, routed}
use Rattle.coll_routes.specs.Fit.{IsFit}
use Rattle.wall_verdict.specs.Charges.{charged}
use Rattle.wall_verdict.specs.Grants.{charged_to}
use Rattle.run_model.specs.declared.entry.Entry.{Entry}
use Rattle.run_model.specs.Posts.{Post, place, comms, filled, outcome}
use Rattle.run_model.specs.Holding.{IsGrant}
use Rattle.run_state.specs.declared.entered.Entered.{Entered}
use Rattle.run_state.specs.declared.entered.Entered.TheVariants.{Waiting, Settled}
use Rattle.run_state.specs.Views.{PostStateValue}
use Rattle.audit_book.specs.Checks.{Stands}
use Rattle.book_report.specs.declared.row.Row.{Row}
use Rattle.book_report.specs.declared.row.Way.{Way}
use Rattle.book_report.specs.declared.known.Known.{Known}
use Rattle.book_report.specs.declared.place.Place.{Place}
use Rattle.book_report.specs.declared.place.Instance.{Instance}
use Rattle.book_report.specs.Held.{histories_after, posts_to, IsRow, HasRow, Follows, IsPostAt}
use Rattle.book_report.specs.Held.{IsFirstAfter, IsOwnPost}
use Rattle.book_report.specs.Places.{IsPlace}

-- some row is of this pair, as the sets have it
abbrev pub knows : Known → (p d : ℕ) → Bool
knows known p d = has_in known.sets.items p d

-- there is a set for each number that a process can have
abbrev pub HasRoom : Known → Type 0
HasRoom known = length known.sets.items ≡ process_limit

-- Each row tells how its process first came to hold its dataset, by one of the first n entries. A
-- pair is known exactly if it has a row, and no two rows are of one pair.
pub record AreKnown (wall : ChineseWall) (entries : List Entry) (n : ℕ) (known : Known)
    : Type 0 where
  pub sound : All (IsRow wall entries) known.rows.items
  pub early : All (λ row. row.entry ≤ n) known.rows.items
  pub told : All (λ row. knows known row.process row.dataset ≡ true) known.rows.items
  pub whole : (p d : ℕ) → knows known p d ≡ true → HasRow known.rows.items p d
  pub once : AllPairs Follows known.rows.items

-- one pair more is known
abbrev pub is_pair : (p d q e : ℕ) → Bool
is_pair p d q e = nat_eq q p && nat_eq e d

abbrev pub AddsPair : Known → (p d : ℕ) → Known → Type 0
AddsPair old p d new = (q e : ℕ) → knows new q e ≡ (knows old q e || is_pair p d q e)

-- what was known is known
abbrev pub Grows : Known → Known → Type 0
Grows old new = (p d : ℕ) → knows old p d ≡ true → knows new p d ≡ true

-- each of these pairs is known
abbrev pub Covers : History → Known → Type 0
Covers has known = (p d : ℕ) → has p d ≡ true → knows known p d ≡ true

-- after n entries of the book the state stands for their posts, and what they gave is known
pub record HasCome (wall : ChineseWall) (entries : List Entry) (n : ℕ)
    (post_state : PostStateValue (Unit {0})) (known : Known) : Type 0 where
  pub stands : Stands wall post_state (posts_to entries n)
  pub room : HasRoom known
  pub rows : AreKnown wall entries n known
  pub whole : Covers (histories_after wall entries n) known

abbrev pub row_of : (p d n : ℕ) → Way → Row
row_of p d n way = record { process = p; dataset = d; entry = n; way = way }

-- a post of elements of d, which passed
abbrev pub PassedWith : Stated → (d : ℕ) → Type 0
PassedWith stated d = (stated.barred ≡ false) × (stated.label ≡ Some (Of d))

-- rank i gives rank j elements of d
abbrev pub GivesTo : Roll → (i j d : ℕ) → Type 0
GivesTo roll i j d = (routed roll i j ≡ true) × (label_of roll i ≡ Some (Of d))

-- what is told of a post made after these: whether it fills its instance, and if so, the instance
-- with its number and outcome
abbrev pub IsTold : ChineseWall → Post → List Post → Entered (Unit {0}) → Type 0
IsTold wall x past (Waiting k) = filled (comms wall past) x past ≡ None
IsTold wall x past (Settled full k o) = (place x past ≡ k)
    × (filled (comms wall past) x past ≡ Some full.roll)
    × (outcome wall x past ≡ Some o)
    × IsFit full.roll

-- entry n is the post that filled this roll, instance (c, k), which was granted
pub record IsGrantAt (wall : ChineseWall) (entries : List Entry) (n c k : ℕ) (roll : Roll)
    : Type 0 where
  pub x : Post
  pub at : IsPostAt entries n x
  pub comm : x.comm ≡ c
  pub kth : place x (posts_to entries (n - 1)) ≡ k
  pub grant : IsGrant wall x (posts_to entries (n - 1)) roll

-- the instance was granted, and calls on it may be made
pub record IsGranted (instance : Instance) : Type 0 where
  pub place : IsPlace instance.place
  pub fit : IsFit instance.roll.now
  pub grant : IsGrantAt instance.place.policy.now instance.place.book.now.list
      (instance.place.at + 1) instance.comm instance.k instance.roll.now

-- p first holds d by the entry at the place, and not by its own post there, if it is not known yet to
-- hold it
abbrev pub IsNew : Place → Known → (p d : ℕ) → Type 0
IsNew place known p d = knows known p d ≡ false →
    IsFirstAfter place.policy.now place.book.now.list p d (place.at + 1)
    × ¬ (IsOwnPost place.book.now.list p d (place.at + 1))

-- the rows are right, up to the entry at the place
pub record AreKnownAt (place : Place) (known : Known) : Type 0 where
  pub room : HasRoom known
  pub rows : AreKnown place.policy.now place.book.now.list (place.at + 1) known

-- they are so with the rows that were added
pub record HasAdded (place : Place) (old new : Known) : Type 0 where
  pub known : AreKnownAt place new
  pub grows : Grows old new

-- d is charged to rank j
abbrev pub IsCharged : Instance → (j d : ℕ) → Type 0
IsCharged instance j d = charged instance.place.policy.now instance.roll.now j d ≡ true

-- it holds of the member at rank j; of the datasets that are charged to it; of the pairs that the
-- instance brings
abbrev pub AtRank : Instance → (j : ℕ) → (ℕ → Type 0) → Type 0
AtRank instance j P = (p : ℕ) → slice_get instance.roll.now.members j ≡ Some p → P p

abbrev pub OfCharges : Instance → (j : ℕ) → (ℕ → Type 0) → Type 0
OfCharges instance j P = (d : ℕ) → IsCharged instance j d → P d

abbrev pub OfGrant : Instance → (ℕ → ℕ → Type 0) → Type 0
OfGrant instance P = (p d : ℕ) →
    charged_to instance.place.policy.now instance.roll.now p d ≡ true → P p d

-- they are right and whole, up to the entry at the place
pub record AreWhole (place : Place) (known : Known) : Type 0 where
  pub rows : AreKnownAt place known
  pub covers : Covers (histories_after place.policy.now place.book.now.list (place.at + 1)) known
