-- How the reason of a denial is found: words of private contracts.
use Rattle.std.specs.Prelude.{◌≡◌, ℕ, ◌+◌, ◌-◌, ◌<◌, ◌≤◌, ◌==◌, ◌&&◌, Bool, false, List}
use Rattle.std.specs.Prelude.{length, All, AllPairs, Some}
use Rattle.wall_labels.specs.declared.label.Label.{Label}
use Rattle.wall_policy.specs.Policy.{ChineseWall}
use Rattle.wall_policy.specs.Rivals.{AreRivals}
use Rattle.wall_rules.specs.Histories.{History, has}
use Rattle.coll_routes.specs.declared.roll.Roll.{Roll}
use Rattle.coll_routes.specs.Fit.{IsFit}
use Rattle.wall_rules.specs.declared.rule.Rule.{Rule}
use Rattle.wall_verdict.specs.declared.verdict.Verdict.TheVariants.{Denied as is_denied}
use Rattle.wall_verdict.specs.Charges.{sanitised}
use Rattle.wall_verdict.specs.Meanings.{IsVerdict}
use Rattle.run_model.specs.declared.outcome.Outcome.TheVariants.{Denied}
use Rattle.run_model.specs.declared.entry.Entry.{Entry}
use Rattle.run_model.specs.declared.entry.Entry.TheVariants.{Posted, Settled}
use Rattle.run_model.specs.Posts.{Post, outcome}
use Rattle.run_state.specs.declared.entered.Entered.{Entered}
use Rattle.run_state.specs.Views.{PostStateValue}
use Rattle.book_report.specs.declared.denial.Denial.{Denial}
use Rattle.book_report.specs.declared.denial.Reason.{Reason}
use Rattle.book_report.specs.declared.place.Place.{Place}
use Rattle.book_report.specs.declared.reason.Clash.{Clash}
use Rattle.book_report.specs.declared.reason.Judged.{Judged}
use Rattle.book_report.specs.Held.{posts_to, IsPostAt}
use Rattle.book_report.specs.Walk.{GivesTo, IsTold}
use Rattle.book_report.specs.Denials.{IsDeniedAt, IsFilledAt, IsDenial, HasDenial, ComesFrom}
use Rattle.book_report.specs.Denials.{IsReason}
use Rattle.book_report.specs.Places.{IsPlace, IsHere, StandsBehind}

-- the entry is a post of p on c
abbrev pub is_part : Entry → (p c : ℕ) → Bool
is_part (Posted q d stated) p c = d == c && q == p
is_part (Settled d k o) p c = false

-- rank m gives rank j elements of a rival of d
abbrev pub GivesRival : ChineseWall → Roll → (m j d : ℕ) → Type 0
GivesRival wall roll m j d = (e : ℕ) × GivesTo roll m j e × AreRivals wall.classes d e

-- some rank below i does, and what rank j gets isn't sanitised
pub record IsBeside (wall : ChineseWall) (roll : Roll) (j i d : ℕ) : Type 0 where
  pub unsanitised : sanitised wall roll j ≡ false
  pub rank : ℕ
  pub low : rank < i
  pub gives : GivesRival wall roll rank j d

-- the clash tells a rival of d, which p, rank j, holds or would get too
pub record IsClash (wall : ChineseWall) (entries : List Entry) (c k : ℕ) (roll : Roll)
    (has : History) (j i p d : ℕ) (clash : Clash) : Type 0 where
  pub rivals : AreRivals wall.classes d clash.rival
  pub source : ComesFrom wall entries c k roll has j i p clash.rival clash.source

-- entry n filled instance (c, k), which is this roll, and the next entry tells that it was denied
pub record IsDenied (wall : ChineseWall) (entries : List Entry) (n c k : ℕ) (roll : Roll)
    (has : History) (rule : Rule) (p : ℕ) (label : Label) : Type 0 where
  pub told : IsDeniedAt entries (n + 1) c k rule p label
  pub filled : IsFilledAt wall entries n c k roll has
  pub fit : IsFit roll
  pub verdict : IsVerdict wall has roll (is_denied rule p label)
  pub within : n ≤ length entries

-- the instance, as it was judged, is the one that the post at its place filled
pub record IsJudged (judged : Judged) : Type 0 where
  pub place : IsPlace judged.instance.place
  pub classes : judged.histories.now.classes ≡ judged.instance.place.policy.now.classes
  pub fit : IsFit judged.instance.roll.now
  pub filled : IsFilledAt judged.instance.place.policy.now judged.instance.place.book.now.list
      (judged.instance.place.at + 1) judged.instance.comm judged.instance.k
      judged.instance.roll.now (has judged.histories.now)

-- and it was denied by this rule, which names these
pub record WasDenied (judged : Judged) (rule : Rule) (p : ℕ) (label : Label) : Type 0 where
  pub place : IsPlace judged.instance.place
  pub classes : judged.histories.now.classes ≡ judged.instance.place.policy.now.classes
  pub denied : IsDenied judged.instance.place.policy.now judged.instance.place.book.now.list
      (judged.instance.place.at + 1) judged.instance.comm judged.instance.k
      judged.instance.roll.now (has judged.histories.now) rule p label

abbrev pub IsClashOf : Judged → (j i p d : ℕ) → Clash → Type 0
IsClashOf judged j i p d clash = IsClash judged.instance.place.policy.now
    judged.instance.place.book.now.list judged.instance.comm judged.instance.k
    judged.instance.roll.now (has judged.histories.now) j i p d clash

abbrev pub IsReasonOf : Judged → (p : ℕ) → Reason → Type 0
IsReasonOf judged p reason = IsReason judged.instance.place.policy.now
    judged.instance.place.book.now.list (judged.instance.place.at + 1 + 1) judged.instance.comm
    judged.instance.k p reason

-- entry n is the post x, which filled an instance that was denied
pub record IsDeniedPost (wall : ChineseWall) (entries : List Entry) (n : ℕ) (x : Post)
    : Type 0 where
  pub at : IsPostAt entries n x
  pub rule : Rule
  pub process : ℕ
  pub label : Label
  pub denied : outcome wall x (posts_to entries (n - 1)) ≡ Some (Denied rule process label)

-- these are the denials that the posts among the first n entries brought, in their order
pub record AreDenialsTo (wall : ChineseWall) (entries : List Entry) (n : ℕ) (denials : List Denial)
    : Type 0 where
  pub sound : All (IsDenial wall entries) denials
  pub early : All (λ denial. denial.entry ≤ n + 1) denials
  pub whole : (m : ℕ) (x : Post) → m ≤ n → IsDeniedPost wall entries m x → HasDenial denials (m + 1)
  pub rising : AllPairs (λ a b. a.entry < b.entry) denials

-- a post on c stands at the place, the state stands for the posts up to it, and this was told of it
pub record HasFollowed (place : Place) (c : ℕ) (post_state : PostStateValue (Unit {0}))
    (entered : Entered (Unit {0})) : Type 0 where
  pub sound : IsPlace place
  pub x : Post
  pub here : IsHere place x
  pub comm : x.comm ≡ c
  pub stands : StandsBehind place post_state
  pub told : IsTold place.policy.now x (posts_to place.book.now.list place.at) entered
