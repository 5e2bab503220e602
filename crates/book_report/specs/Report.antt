-- What a report has of a book: each of its lists, whole. (Own rules, in the words of the others.)
use Rattle.std.specs.Prelude.{◌≡◌, ℕ, ◌<◌, List, true, length, All, AllPairs}
use Rattle.wall_labels.specs.declared.label.Label.{Label}
use Rattle.wall_policy.specs.Policy.{ChineseWall}
use Rattle.wall_rules.specs.declared.rule.Rule.{Rule}
use Rattle.run_model.specs.declared.entry.Entry.{Entry}
use Rattle.run_model.specs.Posts.{Post}
use Rattle.book_report.specs.declared.row.Row.{Row}
use Rattle.book_report.specs.declared.bar.Bar.{Bar}
use Rattle.book_report.specs.declared.denial.Denial.{Denial}
use Rattle.book_report.specs.declared.sanitised.Sanitised.{Sanitised}
use Rattle.book_report.specs.declared.wait.Wait.{Wait}
use Rattle.book_report.specs.Held.{histories_after, IsRow, HasRow, Follows}
use Rattle.book_report.specs.Bars.{IsBar, IsBarredAt, HasBar}
use Rattle.book_report.specs.Denials.{IsDenial, IsDeniedAt, HasDenial}
use Rattle.book_report.specs.Sanitised.{IsSanitised, IsSanitisedAt, HasSanitised, Precedes}
use Rattle.book_report.specs.Waits.{IsWait, IsWaitingAt, HasWait}
use Rattle.book_report.specs.Waits.{Precedes as ComesBefore}

-- these are the rows of the book, and no others: each tells how its process first came to hold its
-- dataset, each pair that is held at the end has one, and no pair has two
pub record AreRows (wall : ChineseWall) (entries : List Entry) (rows : List Row) : Type 0 where
  pub right : All (IsRow wall entries) rows
  pub all : (p d : ℕ) → histories_after wall entries (length entries) p d ≡ true → HasRow rows p d
  pub once : AllPairs Follows rows

-- the posts that were barred, all of them, in the book's order, each with what the star rule names
pub record AreBars (wall : ChineseWall) (entries : List Entry) (bars : List Bar) : Type 0 where
  pub right : All (IsBar wall entries) bars
  pub all : (n : ℕ) (x : Post) → IsBarredAt entries n x → HasBar bars n
  pub once : AllPairs (λ a b. a.entry < b.entry) bars

-- the instances that were denied, all of them, in the book's order, each with what the verdict
-- names
pub record AreDenials (wall : ChineseWall) (entries : List Entry) (denials : List Denial)
    : Type 0 where
  pub right : All (IsDenial wall entries) denials
  pub all : (n c k p : ℕ) (rule : Rule) (label : Label) → IsDeniedAt entries n c k rule p label →
      HasDenial denials n
  pub once : AllPairs (λ a b. a.entry < b.entry) denials

-- the members of granted instances whose results were sanitised, all of them, by the entries that
-- filled the instances and by rank
pub record AreSanitised (wall : ChineseWall) (entries : List Entry) (those : List Sanitised)
    : Type 0 where
  pub right : All (IsSanitised wall entries) those
  pub all : (n c k j p : ℕ) → IsSanitisedAt wall entries n c k j p → HasSanitised those n j
  pub once : AllPairs Precedes those

-- the members of the instances that wait at the end, all of them, by communicator, instance and
-- rank
pub record AreWaits (wall : ChineseWall) (entries : List Entry) (waits : List Wait) : Type 0 where
  pub right : All (IsWait wall entries) waits
  pub all : (c k j p : ℕ) → IsWaitingAt wall entries c k j p → HasWait waits c k j
  pub once : AllPairs ComesBefore waits
