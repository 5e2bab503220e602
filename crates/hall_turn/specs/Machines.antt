-- What a door needs of the machine behind it: the runs that it stands for, what a call makes of
-- them, and whether it settled an instance.
use Rattle.std.specs.Prelude.{◌≡◌, ◌↔◌, ℕ, ◌+◌, Bool, IsTrue, List, ◌∷◌, length}
use Rattle.std.specs.Prelude.{Option, Some}
use Rattle.wall_policy.specs.Policy.{ChineseWall}
use Rattle.run_model.specs.Books.{book}
use Rattle.run_model.specs.Runs.{Entry, posts}
use Rattle.hall_core.specs.Halls.{HallValue}
use Rattle.hall_turn.specs.Receipts.{Covered, nothing_known}
pub use Rattle.hall_core.specs.Machines.{Stands, ForEachRun, Carries, ClaimsAfter}

-- how many entries the book of a run has
unfoldable pub entries_of : ChineseWall → List Entry → ℕ
entries_of wall run = length (book wall (posts run))

-- The entry is that of a post that settles its instance: with it the book has two entries more,
-- that of the post and that of the instance.
abbrev pub Settles : ChineseWall → (run : List Entry) → Entry → Type 0
Settles wall run e = entries_of wall (e ∷ run) ≡ entries_of wall run + 2

-- whether the entry settles its instance, after each legal run that the machine stands for
abbrev pub TellsWhether : {M : Type 0} → (ChineseWall → M → List Entry → Type 0) → M → Bool →
    Entry → Type 0
TellsWhether stands old settled e =
    ForEachRun stands old (λ wall run. IsTrue settled ↔ Settles wall run e)

-- a hall writes nothing down, so it never lacks anything that it had to write; nothing is known
abbrev pub always_booked : HallValue → Option Covered
always_booked hall = Some nothing_known
