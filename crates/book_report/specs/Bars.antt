-- Why posts were barred, by what the star rule names. (Own rule, in the words of the rule.)
use Rattle.std.specs.Prelude.{◌≡◌, ℕ, ◌<◌, ◌≤◌, true, List, Contains, All, AllPairs, Some}
use Rattle.wall_policy.specs.Policy.{ChineseWall}
use Rattle.wall_rules.specs.Rules.{IsLowest, IsHeldOther}
use Rattle.run_model.specs.declared.entry.Entry.{Entry}
use Rattle.run_model.specs.Posts.{Post}
use Rattle.run_model.specs.Books.{histories_before}
use Rattle.book_report.specs.declared.bar.Bar.{Bar}
use Rattle.book_report.specs.Held.{IsPostAt}

-- entry n is a post that was barred
pub record IsBarredAt (entries : List Entry) (n : ℕ) (x : Post) : Type 0 where
  pub at : IsPostAt entries n x
  pub barred : x.stated.barred ≡ true

-- The entry is a post with this label, which was barred: its process had had access to `held`, the
-- lowest dataset of those that are not the label's.
pub record IsBar (wall : ChineseWall) (entries : List Entry) (bar : Bar) : Type 0 where
  pub x : Post
  pub post : IsBarredAt entries bar.entry x
  pub by : x.process ≡ bar.process
  pub label : x.stated.label ≡ Some bar.label
  pub lowest : IsLowest
      (IsHeldOther (histories_before wall entries bar.entry bar.process) bar.label) bar.held

-- one of these is of this entry
abbrev pub HasBar : List Bar → (n : ℕ) → Type 0
HasBar bars n = (bar : Bar) × Contains bars bar × (bar.entry ≡ n)

-- these are the bars among the first n entries, in their order
pub record AreBarsTo (wall : ChineseWall) (entries : List Entry) (n : ℕ) (bars : List Bar)
    : Type 0 where
  pub sound : All (IsBar wall entries) bars
  pub early : All (λ bar. bar.entry ≤ n) bars
  pub whole : (m : ℕ) (x : Post) → m ≤ n → IsBarredAt entries m x → HasBar bars m
  pub rising : AllPairs (λ a b. a.entry < b.entry) bars
