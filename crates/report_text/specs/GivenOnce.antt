-- What the runs of a chain gave, over all of them: what is held before was given once. Lists of
-- books and of their rows have the newest first. (Own rule.)
use Rattle.std.specs.Prelude.{◌≡◌, ◌≢◌, ◌⊎◌, ◌<◌, ℕ, List, [], ◌∷◌, true, false, Some, Contains}
use Rattle.wall_labels.specs.declared.ids.TheConstants.{DATASET_LIMIT}
use Rattle.wall_policy.specs.Policy.{ChineseWall, home_of, held_of}
use Rattle.run_model.specs.Chains.{Link, IsChain}
use Rattle.run_model.specs.Years.{BeginsWithNothing}
use Rattle.book_report.specs.declared.row.Row.{Row}
use Rattle.book_report.specs.declared.row.Way.TheVariants.{AtFirst}
use Rattle.book_report.specs.Report.{AreRows}

-- One of the rows of a book has a line of what the run gave: it is of this pair, which was not
-- there at first. (Of each pair there is one row.)
abbrev pub Gave : List Row → (p d : ℕ) → Type 0
Gave rows p d = (row : Row) × Contains rows row × (row.process ≡ p) × (row.dataset ≡ d)
    × (row.way ≢ AtFirst)

-- each of these lists has the rows of a book
abbrev pub AreAllRows : List Link → List (List Row) → Type 0
AreAllRows [] [] = Unit {0}
AreAllRows (r ∷ older) (rows ∷ others) = AreAllRows older others × AreRows r.wall r.book rows
AreAllRows links others = ⊥

-- none of the runs gave it
abbrev pub NoneGave : List (List Row) → (p d : ℕ) → Type 0
NoneGave [] p d = Unit {0}
NoneGave (rows ∷ others) p d = NoneGave others p d × ¬ (Gave rows p d)

-- exactly one of them did
abbrev pub OneGave : List (List Row) → (p d : ℕ) → Type 0
OneGave [] p d = ⊥
OneGave (rows ∷ others) p d =
    (NoneGave others p d × Gave rows p d) ⊎ (OneGave others p d × ¬ (Gave rows p d))

-- what is held before under the policy after a chain of books, and is no home there, was given by
-- exactly one of the runs
abbrev pub WhatIsHeldWasGivenOnce : Type 0
WhatIsHeldWasGivenOnce = (links : List Link) (wall : ChineseWall) (rows : List (List Row))
    (p d : ℕ) → d < DATASET_LIMIT → BeginsWithNothing links wall → IsChain links wall →
    AreAllRows links rows → held_of wall p d ≡ true → home_of wall p ≢ Some d → OneGave rows p d

-- and what is not held before was given by none
abbrev pub WhatWasGivenIsHeld : Type 0
WhatWasGivenIsHeld = (links : List Link) (wall : ChineseWall) (rows : List (List Row))
    (p d : ℕ) → d < DATASET_LIMIT → IsChain links wall → AreAllRows links rows →
    held_of wall p d ≡ false → NoneGave rows p d
