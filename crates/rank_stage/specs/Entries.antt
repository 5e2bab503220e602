-- What a rank does that waits for the start, and whom one calls that lies down. (Own rules.)
use Rattle.std.specs.Prelude.{◌≡◌, ◌⊎◌, ℕ, Option, None}
use Rattle.rank_stage.specs.declared.board.Board.{Board}
use Rattle.rank_stage.specs.declared.board.Place.TheVariants.{Plays}
use Rattle.rank_stage.specs.declared.standing.Start.{Start}
use Rattle.rank_stage.specs.declared.standing.Start.TheVariants.{InTurn, AtOnce}
use Rattle.rank_stage.specs.declared.standing.Rest.{Rest}
use Rattle.rank_stage.specs.declared.standing.Rest.TheVariants.{Stays, Sleeps}
use Rattle.rank_stage.specs.Boards.{place_of}

-- a rank that waits for the start begins where all do, and else when it comes to play
abbrev pub MayBegin : Start → Board → (rank : ℕ) → Type 0
MayBegin start board rank = (start ≡ AtOnce) ⊎ ((start ≡ InTurn) × (place_of board rank ≡ Plays))

-- whom a rank calls that lies down
abbrev pub called_by : Rest → Option ℕ
called_by Stays = None
called_by (Sleeps call) = call.0
