-- Where the ranks of a run stand, and what may be said of it at any time. (Own rules.)
use Rattle.std.specs.Prelude.{◌≡◌, ◌≢◌, ◌↔◌, ◌⊎◌, ℕ, ◌+◌, ◌-◌, ◌^◌, ◌<◌, ◌≤◌, Bool, true, false}
use Rattle.std.specs.Prelude.{Option, Some, None, IfSome, IsSome, length, slice_index_or}
use Rattle.rank_stage.specs.declared.board.Instance.{Instance}
use Rattle.rank_stage.specs.declared.board.Place.{Place}
use Rattle.rank_stage.specs.declared.board.Place.TheVariants.{Plays, InLine, Aside, Sleeps, Ended}
use Rattle.rank_stage.specs.declared.board.Board.{Board}

-- where the rank stands; what is no rank has ended
abbrev pub place_of : Board → (rank : ℕ) → Place
place_of board rank = slice_index_or board.places.items rank Ended

-- how many instances have settled on the communicator
abbrev pub settled_on : Board → (comm : ℕ) → ℕ
settled_on board comm = slice_index_or board.settled.items comm 0

-- the rank plays, stands in line, or has stepped aside
abbrev pub is_awake : Place → Bool
is_awake Plays = true
is_awake InLine = true
is_awake Aside = true
is_awake (Sleeps it) = false
is_awake Ended = false

-- the place is in line, or is that of no rank
abbrev pub IsInLineOrNone : Place → Type 0
IsInLineOrNone place = (place ≡ InLine) ⊎ (place ≡ Ended)

-- the rank does not sleep for what has settled
abbrev pub HasHeard : Board → (rank : ℕ) → Type 0
HasHeard board rank = (it : Instance) → place_of board rank ≡ Sleeps it
    → settled_on board it.comm ≤ it.number

-- nobody sleeps for what has settled
abbrev pub IsHeard : Board → Type 0
IsHeard board = (rank : ℕ) → HasHeard board rank

-- who plays is the one that has the place
abbrev pub PlaysAlone : Board → Type 0
PlaysAlone board = (rank : ℕ) → (place_of board rank ≡ Plays) ↔ (board.player ≡ Some rank)

-- the rank does not sleep
abbrev pub SleepsForNothing : Board → (rank : ℕ) → Type 0
SleepsForNothing board rank = (it : Instance) → place_of board rank ≢ Sleeps it

-- nobody sleeps
abbrev pub NobodySleeps : Board → Type 0
NobodySleeps board = (rank : ℕ) → SleepsForNothing board rank

-- nobody is awake
abbrev pub AllSleep : Board → Type 0
AllSleep board = (rank : ℕ) → is_awake (place_of board rank) ≡ false

-- where somebody sleeps, somebody is awake
abbrev pub IsWatched : Board → Type 0
IsWatched board = (rank : ℕ) (it : Instance) → place_of board rank ≡ Sleeps it → AllSleep board → ⊥

-- where somebody stands in line, somebody plays
abbrev pub IsServed : Board → Type 0
IsServed board = (rank : ℕ) → place_of board rank ≡ InLine → IsSome board.player

-- The board is orderly, but that the place may be free while somebody stands in line.
pub record AwaitsCast (board : Board) : Type 0 where
  pub heard : IsHeard board
  pub one : PlaysAlone board
  pub watched : IsWatched board

pub record IsOrderly (board : Board) : Type 0 where
  pub heard : IsHeard board
  pub one : PlaysAlone board
  pub watched : IsWatched board
  pub served : IsServed board

-- The rank comes before all that stand in line, counted from `next` on and then from 0.
pub record ComesFirst (next : ℕ) (board : Board) (rank : ℕ) : Type 0 where
  pub first : (other : ℕ) → next ≤ other → other < rank → place_of board other ≢ InLine
  pub none : rank < next → (other : ℕ) → next ≤ other → place_of board other ≢ InLine
  pub round : rank < next → (other : ℕ) → other < rank → place_of board other ≢ InLine

-- the rank is the first in line
pub record IsNextInLine (board : Board) (rank : ℕ) : Type 0 where
  pub stands : place_of board rank ≡ InLine
  pub first : ComesFirst board.next board rank

-- where the next search starts: behind whoever is called
abbrev pub next_after : (next : ℕ) → (called : Option ℕ) → ℕ
next_after next None = next
next_after next (Some rank) = rank + 1

-- Whoever has come to play is the one to call, and whoever is to be called plays. It came before
-- all that are left in line, and the next search starts behind it: they play before it plays again.
pub record Calls (before after : Board) (called : Option ℕ) : Type 0 where
  pub all : (rank : ℕ) → place_of after rank ≡ Plays → place_of before rank ≢ Plays
      → called ≡ Some rank
  pub only : IfSome called (λ rank. place_of after rank ≡ Plays)
  pub turn : IfSome called (λ rank. ComesFirst before.next after rank)
  pub next : after.next ≡ next_after before.next called

-- the rank stands in line, or plays
abbrev pub IsUp : Place → Type 0
IsUp place = (place ≡ InLine) ⊎ (place ≡ Plays)

-- the rank slept, and now stands in line or plays
pub record HasBeenWoken (before after : Board) (rank : ℕ) : Type 0 where
  pub it : Instance
  pub slept : place_of before rank ≡ Sleeps it
  pub up : IsUp (place_of after rank)

-- the rank slept for an instance that has settled, and now stands in line or plays
pub record HasBeenCalled (before after : Board) (rank : ℕ) : Type 0 where
  pub it : Instance
  pub slept : place_of before rank ≡ Sleeps it
  pub settled : it.number < settled_on after it.comm
  pub up : IsUp (place_of after rank)

-- nobody but the rank is awake
abbrev pub IsLastAwake : Board → (rank : ℕ) → Type 0
IsLastAwake board rank = (other : ℕ) → other ≢ rank → is_awake (place_of board other) ≡ false

-- the rank stands where it stood
abbrev pub Stays : (before after : Board) → (rank : ℕ) → Type 0
Stays before after rank = place_of after rank ≡ place_of before rank

-- the rank stands where it stood, or has come from the line to play
abbrev pub StaysOrPlays : (before after : Board) → (rank : ℕ) → Type 0
StaysOrPlays before after rank = Stays before after rank
    ⊎ ((place_of before rank ≡ InLine) × (place_of after rank ≡ Plays))

-- nobody but the rank has moved, unless it has come from the line to play
abbrev pub OthersStay : (before after : Board) → (rank : ℕ) → Type 0
OthersStay before after rank = (other : ℕ) → other ≢ rank → StaysOrPlays before after other

-- The rank, which plays, may leave for the place: it sleeps for nothing that has settled, and only
-- where another is awake.
pub record MayLeaveFor (board : Board) (rank : ℕ) (place : Place) : Type 0 where
  pub goes : (place ≢ Plays) × (place ≢ InLine)
  pub heard : (it : Instance) → place ≡ Sleeps it → settled_on board it.comm ≤ it.number
  pub watched : is_awake place ≡ false
      → (other : ℕ) × (other ≢ rank) × (is_awake (place_of board other) ≡ true)

-- but for where ranks stand, the board is as it was
pub record KeepsRest (before after : Board) : Type 0 where
  pub settled : after.settled ≡ before.settled
  pub player : after.player ≡ before.player
  pub next : after.next ≡ before.next
  pub len : length after.places.items ≡ length before.places.items

-- One more instance has settled on the communicator, and on no other: a count stays at the greatest
-- number that it can be.
pub record CountsOneMore (before after : Board) (comm : ℕ) : Type 0 where
  pub more : settled_on before comm < 2 ^ 64 - 1 → comm < length before.settled.items
      → settled_on after comm ≡ settled_on before comm + 1
  pub others : (other : ℕ) → other ≢ comm → settled_on after other ≡ settled_on before other

-- A board of so many ranks, all awake, with so many communicators, on which nothing has settled.
pub record Opens (board : Board) (ranks communicators : ℕ) : Type 0 where
  pub places : length board.places.items ≡ ranks
  pub awake : (rank : ℕ) → rank < ranks → is_awake (place_of board rank) ≡ true
  pub counts : length board.settled.items ≡ communicators
  pub none : (comm : ℕ) → settled_on board comm ≡ 0
