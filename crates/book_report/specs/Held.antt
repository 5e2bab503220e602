-- Which process holds what after which entry of a book, and how it came to that. (Own rules, in the
-- words of the book's definition.)
use Rattle.std.specs.Prelude.{◌≡◌, ◌≢◌, ◌⊎◌, ℕ, ◌<◌, ◌≤◌, ◌-◌, take, List, true, false}
use Rattle.std.specs.Prelude.{length, slice_get, Contains, Some}
use Rattle.wall_labels.specs.declared.label.Label.TheVariants.{Of}
use Rattle.wall_policy.specs.Policy.{ChineseWall}
use Rattle.wall_rules.specs.Histories.{History}
use Rattle.coll_routes.specs.declared.roll.Roll.{Roll}
use Rattle.wall_verdict.specs.Meanings.{IsChargedFrom}
use Rattle.run_model.specs.declared.entry.Entry.{Entry}
use Rattle.run_model.specs.Posts.{Post, place, histories}
use Rattle.run_model.specs.Books.{posted, posts_in}
use Rattle.run_model.specs.Holding.{IsGrant}
use Rattle.book_report.specs.declared.row.Way.{Way}
use Rattle.book_report.specs.declared.row.Way.TheVariants.{AtFirst, OwnPost, Delivered}
use Rattle.book_report.specs.declared.row.Row.{Row}

-- the posts among the first n entries of a book, and the histories that they make
abbrev pub posts_to : List Entry → (n : ℕ) → List Post
posts_to entries n = posts_in (take n entries)

abbrev pub histories_after : ChineseWall → List Entry → (n : ℕ) → History
histories_after wall entries n = histories wall (posts_to entries n)

-- Entry n, counted from 1, is the first after which p has had access to d. It is 0 where p had
-- before the first entry.
pub record IsFirstAfter (wall : ChineseWall) (entries : List Entry) (p d n : ℕ) : Type 0 where
  pub within : n ≤ length entries
  pub held : histories_after wall entries n p d ≡ true
  pub new : (m : ℕ) → m < n → histories_after wall entries m p d ≡ false

-- entry n, counted from 1, is the post x
pub record IsPostAt (entries : List Entry) (n : ℕ) (x : Post) : Type 0 where
  pub counted : 1 ≤ n
  pub entry : slice_get entries (n - 1) ≡ Some (posted x)

-- entry n is p's post of elements of d, which passed
pub record IsOwnPost (entries : List Entry) (p d n : ℕ) : Type 0 where
  pub x : Post
  pub at : IsPostAt entries n x
  pub by : x.process ≡ p
  pub passed : x.stated.barred ≡ false
  pub label : x.stated.label ≡ Some (Of d)

-- Entry n is the post that filled instance (c, k), which was granted and charged d to p for what
-- `from` had given, the lowest rank of those who gave of d.
pub record IsDelivery (wall : ChineseWall) (entries : List Entry) (p d n c k from : ℕ)
    : Type 0 where
  pub x : Post
  pub roll : Roll
  pub i : ℕ
  pub j : ℕ
  pub at : IsPostAt entries n x
  pub comm : x.comm ≡ c
  pub kth : place x (posts_to entries (n - 1)) ≡ k
  pub grant : IsGrant wall x (posts_to entries (n - 1)) roll
  pub receiver : slice_get roll.members j ≡ Some p
  pub giver : slice_get roll.members i ≡ Some from
  pub charged : IsChargedFrom wall roll j i d
  pub lowest : (m : ℕ) → m < i → ¬ (IsChargedFrom wall roll j m d)

-- p came by entry n to hold d, in this way; where entry n is p's own post of d, that is the way, also
-- if it filled an instance that brought d to p
abbrev pub CameBy : ChineseWall → List Entry → (p d n : ℕ) → Way → Type 0
CameBy wall entries p d n AtFirst = n ≡ 0
CameBy wall entries p d n OwnPost = IsOwnPost entries p d n
CameBy wall entries p d n (Delivered c k from) =
    IsDelivery wall entries p d n c k from × ¬ (IsOwnPost entries p d n)

-- the row tells how its process first came to hold its dataset
pub record IsRow (wall : ChineseWall) (entries : List Entry) (row : Row) : Type 0 where
  pub first : IsFirstAfter wall entries row.process row.dataset row.entry
  pub way : CameBy wall entries row.process row.dataset row.entry row.way

-- one of these rows is of this pair
abbrev pub HasRow : List Row → (p d : ℕ) → Type 0
HasRow rows p d = (row : Row) × Contains rows row × (row.process ≡ p) × (row.dataset ≡ d)

-- the second row is no earlier, and of another pair
abbrev pub Follows : Row → Row → Type 0
Follows a b = (a.entry ≤ b.entry) × ((a.process ≢ b.process) ⊎ (a.dataset ≢ b.dataset))
