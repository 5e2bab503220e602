-- Whose results of granted instances were sanitised. (Own rule, in the words of the verdict.)
use Rattle.std.specs.Prelude.{◌≡◌, ◌⊎◌, ℕ, ◌<◌, ◌-◌, List, true, slice_get}
use Rattle.std.specs.Prelude.{Contains, Some}
use Rattle.wall_policy.specs.Policy.{ChineseWall}
use Rattle.coll_routes.specs.declared.roll.Roll.{Roll}
use Rattle.wall_verdict.specs.Charges.{sanitised}
use Rattle.run_model.specs.declared.entry.Entry.{Entry}
use Rattle.run_model.specs.Posts.{Post, place}
use Rattle.run_model.specs.Holding.{IsGrant}
use Rattle.book_report.specs.declared.sanitised.Sanitised.{Sanitised}
use Rattle.book_report.specs.Held.{posts_to, IsPostAt}

-- Entry n is the post that filled instance (c, k), which was granted. What its member p, of rank j,
-- gets is sanitised.
pub record IsSanitisedAt (wall : ChineseWall) (entries : List Entry) (n c k j p : ℕ)
    : Type 0 where
  pub x : Post
  pub roll : Roll
  pub at : IsPostAt entries n x
  pub comm : x.comm ≡ c
  pub kth : place x (posts_to entries (n - 1)) ≡ k
  pub grant : IsGrant wall x (posts_to entries (n - 1)) roll
  pub member : slice_get roll.members j ≡ Some p
  pub sanitised : sanitised wall roll j ≡ true

abbrev pub IsSanitised : ChineseWall → List Entry → Sanitised → Type 0
IsSanitised wall entries it = IsSanitisedAt wall entries it.entry it.comm it.k it.rank it.process

-- one of these is of this entry and this rank
abbrev pub HasSanitised : List Sanitised → (n j : ℕ) → Type 0
HasSanitised those n j =
    (it : Sanitised) × Contains those it × (it.entry ≡ n) × (it.rank ≡ j)

-- it is of an earlier entry than n, or of a lower rank than j of entry n
abbrev pub IsBefore : (n j : ℕ) → Sanitised → Type 0
IsBefore n j it = (it.entry < n) ⊎ ((it.entry ≡ n) × (it.rank < j))

abbrev pub Precedes : Sanitised → Sanitised → Type 0
Precedes a b = IsBefore b.entry b.rank a
