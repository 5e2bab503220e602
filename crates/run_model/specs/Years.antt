-- The wall over years: a chain of books, each under the policy of its own day, and a run that goes
-- on behind them. Each policy has grown from the one before it, and its least numbers are its own.
-- (Own rule: what somebody once had access to stays. Brewer and Nash 1989 have one history without
-- an end.) A list of books, a run and a list of posts have the newest first.
use Rattle.std.specs.Prelude.{◌≡◌, ◌⊎◌, ◌<◌, ◌≤◌, ◌-◌, ◌↔◌, ℕ, take, length, List, [], ◌∷◌, ◌++◌}
use Rattle.std.specs.Prelude.{true, false, Some}
use Rattle.wall_labels.specs.declared.ids.TheConstants.{DATASET_LIMIT}
use Rattle.wall_labels.specs.declared.label.Label.TheVariants.{Of}
use Rattle.wall_policy.specs.Policy.{ChineseWall, IsPolicy, CanBeHeld, home_of, held_of, with_held}
use Rattle.wall_policy.specs.Rivals.{AreRivals}
use Rattle.wall_rules.specs.Histories.{ArePairsOf}
use Rattle.run_model.specs.declared.entry.Entry.{Entry as BookEntry}
use Rattle.run_model.specs.Posts.{Post, histories}
use Rattle.run_model.specs.Books.{posts_in, IsSound}
use Rattle.run_model.specs.Holding.{Holds, IsMoment, Reaches}
use Rattle.run_model.specs.Chains.{Link, IsChain, GrewFrom, IsPolicyAfter, EverHeld, WereRivals}
use Rattle.run_model.specs.Runs.{Entry, posts}
use Rattle.run_model.specs.Replies.{Legal}
use Rattle.run_model.specs.Known.{PostsHaveKnownLabels}

---- Nobody ever held two rivals.

-- p held d at some time in this run: before an entry of it, or after its last
pub record HeldInRun (wall : ChineseWall) (run : List Entry) (p d : ℕ) : Type 0 where
  pub later : List Entry
  pub front : List Entry
  pub begins : later ++ front ≡ run
  pub held : Holds wall (posts front) p d

-- p held d at some time in these books, or in the run behind them
abbrev pub HeldByThen : List Link → ChineseWall → List Entry → (p d : ℕ) → Type 0
HeldByThen older wall run p d = EverHeld older p d ⊎ HeldInRun wall run p d

-- two who were rivals under the policy of one of these books, or are under this one
abbrev pub WereEverRivals : List Link → ChineseWall → (d e : ℕ) → Type 0
WereEverRivals older wall d e = WereRivals older d e ⊎ AreRivals wall.classes d e

-- Over a chain of books, each sound under its own policy after those before it, and any legal run
-- under the policy after them, nobody ever held two who were rivals under any of these policies,
-- directly or through others.
abbrev pub YearsKeepTheWall : Type 0
YearsKeepTheWall = (older : List Link) (wall : ChineseWall) (run : List Entry) (p d e : ℕ) →
    IsPolicy wall → IsChain older wall → Legal wall run → WereEverRivals older wall d e →
    HeldByThen older wall run p d → ¬ (HeldByThen older wall run p e)

---- What is held from before was had once.

-- The oldest of these books, and where there is none this policy, comes after nothing: nothing was
-- held before, as where a file says the policy.
abbrev pub BeginsWithNothing : List Link → ChineseWall → Type 0
BeginsWithNothing [] wall = (p d : ℕ) → held_of wall p d ≡ false
BeginsWithNothing (r ∷ older) wall = BeginsWithNothing older r.wall

-- p came to hold d by the entry of this number, counted from 1: it did not hold it before
pub record CameToHold (wall : ChineseWall) (book : List BookEntry) (n p d : ℕ) : Type 0 where
  pub counted : 1 ≤ n
  pub within : n ≤ length book
  pub before : ¬ (Holds wall (posts_in (take (n - 1) book)) p d)
  pub after : Holds wall (posts_in (take n book)) p d

-- what p holds of d after these posts p wrote itself, or somebody's post y brought it: y was of that
-- label, or who made it held d then
abbrev pub WasBrought : ChineseWall → List Post → (p d : ℕ) → Type 0
WasBrought wall past p d = ((x : Post) × (before : List Post) × IsMoment past x before
    × (x.process ≡ p) × (x.stated.barred ≡ false) × (x.stated.label ≡ Some (Of d)))
    ⊎ ((y : Post) × (then : List Post) × Reaches wall past p y then
    × ((y.stated.label ≡ Some (Of d)) ⊎ Holds wall then y.process d))

-- who came to hold d by an entry wrote it itself, or was brought it by somebody: the giver is known
abbrev pub WhatCameWasBrought : Type 0
WhatCameWasBrought = (wall : ChineseWall) (book : List BookEntry) (n p d : ℕ) →
    CameToHold wall book n p d → WasBrought wall (posts_in (take n book)) p d

-- p was at home with d under the policy of one of these books, or came to hold it by an entry of
-- one
abbrev pub HadOnce : List Link → (p d : ℕ) → Type 0
HadOnce [] p d = ⊥
HadOnce (r ∷ older) p d = HadOnce older p d
    ⊎ ((home_of r.wall p ≡ Some d) ⊎ ((n : ℕ) × CameToHold r.wall r.book n p d))

-- what is held from before, under the policy after a chain of books, was had once in one of them
abbrev pub WhatIsHeldWasHad : Type 0
WhatIsHeldWasHad = (older : List Link) (wall : ChineseWall) (p d : ℕ) → d < DATASET_LIMIT →
    BeginsWithNothing older wall → IsChain older wall → held_of wall p d ≡ true → HadOnce older p d

---- Chains of deliveries over years.

-- p holds data of d after these books and, under this policy, these posts: as `Holds` says it, but
-- that what was held before goes back to the books, and no list of it occurs
pub data HoldsOver : List Link → ChineseWall → List Post → (p d : ℕ) → Type 0 where
  at_home : {older : List Link} {wall : ChineseWall} {past : List Post} {p d : ℕ} →
      home_of wall p ≡ Some d → HoldsOver older wall past p d
  from_before : {older : List Link} {wall : ChineseWall} {past : List Post} {p d : ℕ} (r : Link)
      (before : List Link) → older ≡ r ∷ before → HoldsOver before r.wall (posts_in r.book) p d →
      HoldsOver older wall past p d
  wrote : {older : List Link} {wall : ChineseWall} {past : List Post} {p d : ℕ} (x : Post)
      (before : List Post) → IsMoment past x before → x.process ≡ p → x.stated.barred ≡ false →
      x.stated.label ≡ Some (Of d) → HoldsOver older wall past p d
  received : {older : List Link} {wall : ChineseWall} {past : List Post} {p d : ℕ} (y : Post)
      (then : List Post) → Reaches wall past p y then → y.stated.label ≡ Some (Of d) →
      HoldsOver older wall past p d
  passed_on : {older : List Link} {wall : ChineseWall} {past : List Post} {p d : ℕ} (y : Post)
      (then : List Post) → Reaches wall past p y then → HoldsOver older wall then y.process d →
      HoldsOver older wall past p d

-- Whatever is held goes back, over all the years, to a home or to what somebody wrote; and what
-- does so is held.
abbrev pub HoldingGoesBack : Type 0
HoldingGoesBack = (older : List Link) (wall : ChineseWall) (past : List Post) (p d : ℕ) →
    d < DATASET_LIMIT → BeginsWithNothing older wall → IsChain older wall →
    Holds wall past p d ↔ HoldsOver older wall past p d

---- The policy of a later day.

-- These files say the policies of the links, each of its own: a link's policy is that of its file,
-- with what was held before, which no file says.
abbrev pub AreOfFiles : (files : List ChineseWall) → List Link → Type 0
AreOfFiles [] [] = Unit {0}
AreOfFiles (file ∷ files) (r ∷ older) =
    AreOfFiles files older × (file.held ≡ []) × (r.wall ≡ with_held file r.wall.held)
AreOfFiles files links = ⊥

-- What is said of a file that has grown from the policy of a sound book, where these pairs are what
-- was held at the book's end: they can be what was held before under it, and with them it is the
-- policy after the book.
pub record GoesOn (wall file : ChineseWall) (entries : List BookEntry) (pairs : List (ℕ × ℕ))
    : Type 0 where
  pub can_be : CanBeHeld file pairs
  pub after : IsPolicyAfter wall (posts_in entries) (with_held file pairs)

-- Each file that has grown so goes on: nothing more is asked of it than `GrewFrom`. Its least
-- numbers and its version are its own.
abbrev pub GrownPoliciesGoOn : Type 0
GrownPoliciesGoOn = (wall file : ChineseWall) (entries : List BookEntry) (pairs : List (ℕ × ℕ)) →
    IsPolicy wall → file.held ≡ [] → GrewFrom wall file → IsSound wall entries →
    PostsHaveKnownLabels wall (posts_in entries) →
    ArePairsOf (histories wall (posts_in entries)) pairs → GoesOn wall file entries pairs

---- The law over years.

-- In the order of its words: nobody ever held two who were rivals at any time; what is held from
-- before was had once, at a home or by an entry of a book, and by which giver; and whatever is held
-- goes back to a home or to what somebody wrote, in whichever year.
pub record OverYears : Type 0 where
  pub apart : YearsKeepTheWall
  pub had : WhatIsHeldWasHad
  pub brought : WhatCameWasBrought
  pub back : HoldingGoesBack
