-- Why instances were denied, by what the rules of the wall name. (Own rules, in the words of the
-- verdict.)
use Rattle.std.specs.Prelude.{◌≡◌, ℕ, ◌<◌, ◌≤◌, ◌-◌, true, List, slice_get, Contains, Some}
use Rattle.wall_labels.specs.declared.label.Label.{Label}
use Rattle.wall_labels.specs.declared.label.Label.TheVariants.{Of}
use Rattle.wall_policy.specs.Policy.{ChineseWall}
use Rattle.wall_policy.specs.Rivals.{AreRivals}
use Rattle.wall_rules.specs.Histories.{History}
use Rattle.coll_routes.specs.declared.roll.Roll.{Roll}
use Rattle.wall_rules.specs.declared.rule.Rule.{Rule}
use Rattle.wall_rules.specs.declared.rule.Rule.TheVariants.{Star as by_star, Simple as by_simple}
use Rattle.wall_verdict.specs.Meanings.{IsChargedFrom, IsLeastOffence, NamesBarred}
use Rattle.run_model.specs.declared.outcome.Outcome.TheVariants.{Denied}
use Rattle.run_model.specs.declared.entry.Entry.{Entry}
use Rattle.run_model.specs.declared.entry.Entry.TheVariants.{Settled}
use Rattle.run_model.specs.Posts.{Post, place, comms, filled, labelled}
use Rattle.book_report.specs.declared.denial.Source.{Source}
use Rattle.book_report.specs.declared.denial.Source.TheVariants.{Held, Beside}
use Rattle.book_report.specs.declared.denial.Reason.{Reason}
use Rattle.book_report.specs.declared.denial.Reason.TheVariants.{Star, Simple}
use Rattle.book_report.specs.declared.denial.Denial.{Denial}
use Rattle.book_report.specs.Held.{histories_after, posts_to, IsPostAt}

-- entry n, counted from 1, tells that instance (c, k) was denied by this rule, which names these
pub record IsDeniedAt (entries : List Entry) (n c k : ℕ) (rule : Rule) (p : ℕ) (label : Label)
    : Type 0 where
  pub counted : 1 ≤ n
  pub entry : slice_get entries (n - 1) ≡ Some (Settled c k (Denied rule p label))

-- entry n is the post of p for instance (c, k)
pub record IsPartAt (entries : List Entry) (n p c k : ℕ) : Type 0 where
  pub x : Post
  pub at : IsPostAt entries n x
  pub by : x.process ≡ p
  pub comm : x.comm ≡ c
  pub kth : place x (posts_to entries (n - 1)) ≡ k

-- entry n is the post that filled instance (c, k), which is this roll, and it was judged under
-- these histories: those before it, with its own label
pub record IsFilledAt (wall : ChineseWall) (entries : List Entry) (n c k : ℕ) (roll : Roll)
    (has : History) : Type 0 where
  pub x : Post
  pub at : IsPostAt entries n x
  pub comm : x.comm ≡ c
  pub kth : place x (posts_to entries (n - 1)) ≡ k
  pub fills :
      filled (comms wall (posts_to entries (n - 1))) x (posts_to entries (n - 1)) ≡ Some roll
  pub under : has ≡ labelled (histories_after wall entries (n - 1)) x

-- by the star rule: the names are of the lowest rank whose post was barred, and this is that post
pub record IsStarDenial (wall : ChineseWall) (entries : List Entry) (n c k p : ℕ) (label : Label)
    (post : ℕ) : Type 0 where
  pub roll : Roll
  pub has : History
  pub told : IsDeniedAt entries n c k by_star p label
  pub filled : IsFilledAt wall entries (n - 1) c k roll has
  pub names : NamesBarred roll p label
  pub posted : IsPartAt entries post p c k

-- the rival is held, or charged to rank j too, from a rank below i
abbrev pub ComesFrom : ChineseWall → List Entry → (c k : ℕ) → Roll → History →
    (j i p rival : ℕ) → Source → Type 0
ComesFrom wall entries c k roll has j i p rival Held = has p rival ≡ true
ComesFrom wall entries c k roll has j i p rival (Beside other given) =
    (m : ℕ) × (m < i) × (slice_get roll.members m ≡ Some other) × IsChargedFrom wall roll j m rival
    × IsPartAt entries given other c k

-- By the simple rule: receiver j, which is p, and contributor i are the least pair that offends.
-- What is charged to j from i is d, by this post, and d has this rival.
pub record IsSimpleDenial (wall : ChineseWall) (entries : List Entry)
    (n c k p d giver given rival : ℕ) (origin : Source) : Type 0 where
  pub roll : Roll
  pub has : History
  pub j : ℕ
  pub i : ℕ
  pub told : IsDeniedAt entries n c k by_simple p (Of d)
  pub filled : IsFilledAt wall entries (n - 1) c k roll has
  pub least : IsLeastOffence wall has roll j i
  pub receiver : slice_get roll.members j ≡ Some p
  pub contributor : slice_get roll.members i ≡ Some giver
  pub charged : IsChargedFrom wall roll j i d
  pub posted : IsPartAt entries given giver c k
  pub rivals : AreRivals wall.classes d rival
  pub source : ComesFrom wall entries c k roll has j i p rival origin

-- what the rule names, by the rule
abbrev pub IsReason : ChineseWall → List Entry → (n c k p : ℕ) → Reason → Type 0
IsReason wall entries n c k p (Star label post) = IsStarDenial wall entries n c k p label post
IsReason wall entries n c k p (Simple d giver given rival source) =
    IsSimpleDenial wall entries n c k p d giver given rival source

-- the entry tells that the instance was denied, for this reason
abbrev pub IsDenial : ChineseWall → List Entry → Denial → Type 0
IsDenial wall entries denial =
    IsReason wall entries denial.entry denial.comm denial.k denial.process denial.reason

-- one of these is of this entry
abbrev pub HasDenial : List Denial → (n : ℕ) → Type 0
HasDenial denials n = (denial : Denial) × Contains denials denial × (denial.entry ≡ n)
