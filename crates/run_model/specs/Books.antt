-- The book: for each counted post its statement, and after a post that fills an instance the
-- outcome. A book has its oldest entry first, a list of posts its newest. (Own rules.)
use Rattle.std.specs.Prelude.{◌≡◌, ℕ, ◌≤◌, ◌+◌, ◌-◌, List, [], ◌∷◌, ◌++◌, Bool, true, not, ◌==◌}
use Rattle.std.specs.Prelude.{length, take, Option, Some, None, reverse, filter_map, is_some}
use Rattle.std.specs.Prelude.{is_none, if◌then◌else◌}
use Rattle.std.specs.Option.{option_map, option_to_list}
use Rattle.wall_policy.specs.Policy.{ChineseWall}
use Rattle.wall_rules.specs.Histories.{History}
use Rattle.coll_routes.specs.declared.statement.Stated.{Stated}
use Rattle.wall_verdict.specs.Star.{star}
use Rattle.wall_labels.specs.declared.label.Label.{Label}
use Rattle.run_model.specs.declared.outcome.Outcome.{Outcome}
use Rattle.run_model.specs.declared.entry.Entry.{Entry}
use Rattle.run_model.specs.declared.entry.Entry.TheVariants.{Posted, Settled}
use Rattle.run_model.specs.Posts.{Post, place, outcome, histories}
use Rattle.run_model.specs.Refusals.{post_fault}

-- ## the book of a list of posts

abbrev pub posted : Post → Entry
posted x = Posted x.process x.comm x.stated

-- the entry of the outcome of the instance that post x filled
abbrev pub outcome_entry : Post → List Post → Option Outcome → Option Entry
outcome_entry x past o = option_map (λ v. Settled x.comm (place x past) v) o

abbrev pub entries_for : ChineseWall → Post → List Post → List Entry
entries_for wall x past = posted x ∷ option_to_list (outcome_entry x past (outcome wall x past))

abbrev pub book : ChineseWall → List Post → List Entry
book wall [] = []
book wall (x ∷ past) = book wall past ++ entries_for wall x past

-- ## soundness

abbrev pub post_in : Entry → Option Post
post_in (Posted p c stated) = Some (record { process = p; comm = c; stated = stated })
post_in (Settled c k o) = None

-- the posts of a book, the newest first
abbrev pub posts_in : List Entry → List Post
posts_in entries = reverse (filter_map post_in entries)

-- a post has a label exactly where it gives an element (own rule)
abbrev pub is_labelled_as : (given : ℕ) → Option Label → Bool
is_labelled_as given label = if given == 0 then is_none label else is_some label

abbrev pub is_labelled : Stated → Bool
is_labelled s = is_labelled_as s.given s.label

-- a post that counts, made after these posts: it meets no refusal, it has a label where it gives an
-- element, and it was barred exactly where it fails the star rule
pub record IsCounted (wall : ChineseWall) (x : Post) (past : List Post) : Type 0 where
  pub accepted : post_fault wall past x ≡ None
  pub label : is_labelled x.stated ≡ true
  pub word : x.stated.barred ≡ not (star (histories wall past) x.process x.stated.label)

abbrev pub AreCounted : ChineseWall → List Post → Type 0
AreCounted wall [] = Unit {0}
AreCounted wall (x ∷ past) = AreCounted wall past × IsCounted wall x past

-- the posts of a sound book count, and give all its other entries
pub record IsSound (wall : ChineseWall) (entries : List Entry) : Type 0 where
  pub posts : AreCounted wall (posts_in entries)
  pub given : entries ≡ book wall (posts_in entries)

-- ## the first entry that the posts don't give

-- a sound book begins with these entries
abbrev pub Begins : ChineseWall → List Entry → Type 0
Begins wall entries = (rest : List Entry) × IsSound wall (entries ++ rest)

-- The first entry, counted from 1, that the posts don't give: a sound book begins with those before
-- it, and none with it too. Where only the end lacks an entry, the number is one more than there
-- are entries.
pub record IsFirstBad (wall : ChineseWall) (entries : List Entry) (n : ℕ) : Type 0 where
  pub counted : 1 ≤ n
  pub within : n ≤ length entries + 1
  pub before : Begins wall (take (n - 1) entries)
  pub wrong : n ≤ length entries → ¬ (Begins wall (take n entries))
  pub missing : n ≡ length entries + 1 → ¬ (IsSound wall entries)

-- the histories that a book gives before its entry of that number, counted from 1
abbrev pub histories_before : ChineseWall → List Entry → (n : ℕ) → History
histories_before wall entries n = histories wall (posts_in (take (n - 1) entries))
