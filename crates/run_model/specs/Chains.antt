-- Chains of books: each is read under the policy after those before it, and so begins with what was
-- held at their end. (Own rule: what somebody once had access to stays. Brewer and Nash 1989 have
-- one history without an end.) A list of books has the newest first.
use Rattle.std.specs.Prelude.{◌≡◌, ◌⊎◌, ◌<◌, ℕ, take, List, [], ◌∷◌, true}
use Rattle.wall_labels.specs.declared.ids.TheConstants.{DATASET_LIMIT}
use Rattle.wall_policy.specs.Policy.{ChineseWall, IsPolicy, held_of}
use Rattle.wall_policy.specs.Rivals.{AreRivals}
pub use Rattle.wall_policy.specs.Growth.{IsPrefix, GrewFrom}
use Rattle.run_model.specs.declared.entry.Entry.{Entry}
use Rattle.run_model.specs.Posts.{Post}
use Rattle.run_model.specs.Books.{posts_in, IsSound}
use Rattle.run_model.specs.Holding.{Holds}
use Rattle.run_model.specs.PostLaws.{IsWhatIsHeld}

---- The policy after posts.

-- The policy for what comes after these posts: the same, or one that only grew, where what each
-- process held after them, directly or through others, is what it held before. (No history occurs
-- in it.)
pub record IsPolicyAfter (wall : ChineseWall) (past : List Post) (after : ChineseWall)
    : Type 0 where
  pub grew : GrewFrom wall after
  pub held : IsWhatIsHeld wall past (held_of after)

---- Chains.

-- a book, and the policy under which it is read
pub record Link : Type 0 where
  pub wall : ChineseWall
  pub book : List Entry

-- each book is sound under the policy after those before it, and this is the policy after all
abbrev pub IsChain : List Link → ChineseWall → Type 0
IsChain [] wall = Unit {0}
IsChain (r ∷ older) wall =
    IsChain older r.wall × IsSound r.wall r.book × IsPolicyAfter r.wall (posts_in r.book) wall

-- p held d at some time in one of these books: before an entry of it, or after its last
abbrev pub EverHeld : List Link → (p d : ℕ) → Type 0
EverHeld [] p d = ⊥
EverHeld (r ∷ older) p d =
    EverHeld older p d ⊎ ((n : ℕ) × Holds r.wall (posts_in (take n r.book)) p d)

-- over all of these books nobody ever held two rivals, directly or through others
abbrev pub NobodyEverHeldBoth : List ℕ → List Link → Type 0
NobodyEverHeldBoth classes links = (p d e : ℕ) → AreRivals classes d e →
    EverHeld links p d → ¬ (EverHeld links p e)

-- what was ever held in a chain of books is held from before under the policy after them
abbrev pub WhatWasHeldIsKept : Type 0
WhatWasHeldIsKept = (older : List Link) (wall : ChineseWall) (p d : ℕ) → d < DATASET_LIMIT →
    IsChain older wall → EverHeld older p d → held_of wall p d ≡ true

-- over a chain of sound books, and one that is sound under the policy after them, nobody ever held
-- two rivals, directly or through others
abbrev pub ChainsKeepTheWall : Type 0
ChainsKeepTheWall = (older : List Link) (wall : ChineseWall) (book : List Entry) →
    IsPolicy wall → IsChain older wall → IsSound wall book →
    NobodyEverHeldBoth wall.classes (record { wall = wall; book = book } ∷ older)

-- who were rivals in one of the books are rivals ever after
abbrev pub WereRivals : List Link → (d e : ℕ) → Type 0
WereRivals [] d e = ⊥
WereRivals (r ∷ older) d e = WereRivals older d e ⊎ AreRivals r.wall.classes d e

abbrev pub RivalsStay : Type 0
RivalsStay = (older : List Link) (wall : ChineseWall) (d e : ℕ) → IsChain older wall →
    WereRivals older d e → AreRivals wall.classes d e
