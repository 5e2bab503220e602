-- What a process holds, directly or through others: chains of deliveries, in which no history
-- occurs. (Own rule, after Brewer and Nash 1989 on indirect flow.) A list of posts has the newest
-- first.
use Rattle.std.specs.Prelude.{◌≡◌, ℕ, List, ◌∷◌, ◌++◌, true, false, slice_get, Some}
use Rattle.wall_labels.specs.declared.label.Label.TheVariants.{Of}
use Rattle.wall_policy.specs.Policy.{ChineseWall, HasAtFirst}
use Rattle.mpi_group.specs.Groups.{rank_in}
use Rattle.coll_routes.specs.declared.roll.Roll.{Roll}
use Rattle.coll_routes.specs.Rolls.{routed}
use Rattle.wall_verdict.specs.Charges.{sanitised}
use Rattle.run_model.specs.declared.outcome.Outcome.TheVariants.{Granted}
use Rattle.run_model.specs.Posts.{Post, place, filled, comms, outcome}

-- post x was made after these posts
abbrev pub IsMoment : List Post → Post → List Post → Type 0
IsMoment past x before = (later : List Post) × (later ++ x ∷ before ≡ past)

-- post x filled this instance, whose outcome was a grant
pub record IsGrant (wall : ChineseWall) (x : Post) (before : List Post) (roll : Roll) : Type 0 where
  pub fills : filled (comms wall before) x before ≡ Some roll
  pub granted : outcome wall x before ≡ Some Granted

-- post y, made after these posts, is the contribution of rank i to the instance that x filled
pub record IsPart (roll : Roll) (x : Post) (before : List Post) (i : ℕ) (y : Post)
    (then : List Post) : Type 0 where
  pub by_member : slice_get roll.members i ≡ Some y.process
  pub there : y.comm ≡ x.comm
  pub kth : place y then ≡ place x before
  pub moment : IsMoment (x ∷ before) y then

-- an unsanitised contribution, post y, reached p in a grant
pub record Reaches (wall : ChineseWall) (past : List Post) (p : ℕ) (y : Post) (then : List Post)
    : Type 0 where
  pub x : Post
  pub before : List Post
  pub roll : Roll
  pub i : ℕ
  pub j : ℕ
  pub at : IsMoment past x before
  pub grant : IsGrant wall x before roll
  pub part : IsPart roll x before i y then
  pub receiver : rank_in roll.members p ≡ Some j
  pub routed : routed roll i j ≡ true
  pub whole : sanitised wall roll j ≡ false

-- p holds data of d after these posts
pub data Holds (wall : ChineseWall) : List Post → (p d : ℕ) → Type 0 where
  -- what it began with: its home, or what it held before
  had_at_first : {past : List Post} {p d : ℕ} → HasAtFirst wall p d → Holds wall past p d
  -- what it wrote
  wrote : {past : List Post} {p d : ℕ} (x : Post) (before : List Post) → IsMoment past x before →
      x.process ≡ p → x.stated.barred ≡ false → x.stated.label ≡ Some (Of d) → Holds wall past p d
  -- what another wrote
  received : {past : List Post} {p d : ℕ} (y : Post) (then : List Post) →
      Reaches wall past p y then → y.stated.label ≡ Some (Of d) → Holds wall past p d
  -- what another held when it posted
  passed_on : {past : List Post} {p d : ℕ} (y : Post) (then : List Post) →
      Reaches wall past p y then → Holds wall then y.process d → Holds wall past p d
