-- What holds of all lists of posts that count, and of their books. A list of posts has the newest
-- first, so `later ++ past` begins with `past`.
use Rattle.std.specs.Prelude.{◌≡◌, ℕ, ◌+◌, ◌-◌, ◌<◌, take, List, ◌∷◌, ◌++◌, ◌↔◌, true, not}
use Rattle.std.specs.Prelude.{slice_get, Some}
use Rattle.wall_labels.specs.declared.ids.TheConstants.{DATASET_LIMIT}
use Rattle.wall_policy.specs.Policy.{ChineseWall, IsPolicy}
use Rattle.wall_policy.specs.Rivals.{AreRivals}
use Rattle.wall_rules.specs.Histories.{History, NobodyHoldsRivals}
use Rattle.coll_routes.specs.declared.statement.Stated.{Stated}
use Rattle.coll_routes.specs.declared.roll.Roll.{Roll}
use Rattle.coll_routes.specs.Fit.{IsFit}
use Rattle.wall_verdict.specs.Star.{star}
use Rattle.run_model.specs.declared.entry.Entry.{Entry}
use Rattle.run_model.specs.declared.entry.Entry.TheVariants.{Posted}
use Rattle.run_model.specs.Comms.{Comm}
use Rattle.run_model.specs.Posts.{Post, filled, comms, histories}
use Rattle.run_model.specs.Books.{book, posts_in, AreCounted, IsSound, IsFirstBad, histories_before}
use Rattle.run_model.specs.Holding.{Holds}

---- Posts.

-- a pair that stands in the histories stays there
abbrev pub HistoriesGrow : Type 0
HistoriesGrow = (wall : ChineseWall) (later past : List Post) (p d : ℕ) →
    histories wall past p d ≡ true → histories wall (later ++ past) p d ≡ true

-- a communicator keeps its number, its group and its grid
abbrev pub CommunicatorsStay : Type 0
CommunicatorsStay = (wall : ChineseWall) (later past : List Post) →
    (new : List Comm) × (comms wall (later ++ past) ≡ comms wall past ++ new)

-- an instance that is filled is one on which the calls on rolls may be made
abbrev pub FilledInstancesAreFit : Type 0
FilledInstancesAreFit = (wall : ChineseWall) (x : Post) (past : List Post) (roll : Roll) →
    IsPolicy wall → AreCounted wall (x ∷ past) → filled (comms wall past) x past ≡ Some roll →
    IsFit roll

-- no process has had access to two rivals (Brewer and Nash 1989: what the simple security rule
-- keeps)
abbrev pub PostsKeepTheWall : Type 0
PostsKeepTheWall = (wall : ChineseWall) (past : List Post) → IsPolicy wall → AreCounted wall past →
    NobodyHoldsRivals wall.classes (histories wall past)

---- What processes hold, directly or through others. (Own rule, after Brewer and Nash 1989 on
---- indirect flow.)

-- the set has exactly the pairs of a process and what it holds after these posts, for every number
-- that a dataset can have
abbrev pub IsWhatIsHeld : ChineseWall → List Post → History → Type 0
IsWhatIsHeld wall past has = (p d : ℕ) → d < DATASET_LIMIT → (has p d ≡ true) ↔ Holds wall past p d

-- no process holds two rivals after these posts
abbrev pub NobodyHoldsBoth : ChineseWall → List Post → Type 0
NobodyHoldsBoth wall past =
    (p d e : ℕ) → AreRivals wall.classes d e → Holds wall past p d → ¬ (Holds wall past p e)

-- after each post a process holds exactly what stands in its history
abbrev pub HoldingIsHistory : Type 0
HoldingIsHistory = (wall : ChineseWall) (later past : List Post) → AreCounted wall (later ++ past) →
    IsWhatIsHeld wall past (histories wall past)

-- after no post a process holds two rivals
abbrev pub NobodyHoldsTwoRivals : Type 0
NobodyHoldsTwoRivals = (wall : ChineseWall) (later past : List Post) → IsPolicy wall →
    AreCounted wall (later ++ past) → NobodyHoldsBoth wall past

---- Books.

-- the book of posts that count is sound, and its posts are those
abbrev pub BooksOfPostsAreSound : Type 0
BooksOfPostsAreSound = (wall : ChineseWall) (past : List Post) → AreCounted wall past →
    IsSound wall (book wall past) × (posts_in (book wall past) ≡ past)

-- in a sound book a post was barred exactly where it failed the star rule under the histories that
-- the book gives before it
abbrev pub WordsAreOfTheStarRule : Type 0
WordsAreOfTheStarRule = (wall : ChineseWall) (entries : List Entry) (i p c : ℕ) (stated : Stated) →
    IsSound wall entries → slice_get entries i ≡ Some (Posted p c stated) →
    stated.barred ≡ not (star (histories_before wall entries (i + 1)) p stated.label)

-- Before the entry of that number, counted from 1, no process held two rivals, directly or through
-- others, and what each held is what the book's histories say.
pub record KeepsTheWallBefore (wall : ChineseWall) (entries : List Entry) (n : ℕ) : Type 0 where
  pub apart : NobodyHoldsBoth wall (posts_in (take (n - 1) entries))
  pub held : IsWhatIsHeld wall (posts_in (take (n - 1) entries)) (histories_before wall entries n)

-- before each entry, and after the last
abbrev pub KeepsTheWall : ChineseWall → List Entry → Type 0
KeepsTheWall wall entries = (n : ℕ) → KeepsTheWallBefore wall entries n

-- so an auditor needs no server: what audits as sound keeps the wall
abbrev pub SoundBooksKeepTheWall : Type 0
SoundBooksKeepTheWall = (wall : ChineseWall) (entries : List Entry) → IsPolicy wall →
    IsSound wall entries → KeepsTheWall wall entries

-- a sound book has no first bad entry
abbrev pub SoundBooksHaveNoBadEntry : Type 0
SoundBooksHaveNoBadEntry = (wall : ChineseWall) (entries : List Entry) (n : ℕ) →
    IsSound wall entries → ¬ (IsFirstBad wall entries n)

-- no book has two
abbrev pub FirstBadEntryIsOne : Type 0
FirstBadEntryIsOne = (wall : ChineseWall) (entries : List Entry) (n m : ℕ) →
    IsFirstBad wall entries n → IsFirstBad wall entries m → n ≡ m
