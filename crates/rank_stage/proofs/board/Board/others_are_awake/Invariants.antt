use Rattle.std.proofs.Common.{◌≡◌, ◌≢◌, ℕ, ◌<◌, false}
use Rattle.rank_stage.specs.Boards.{place_of, is_awake}
use Rattle.rank_stage.proofs.board.Board.others_are_awake.Given as goal

abbrev pub invariant-loop-other : goal.invariant-loop-other
invariant-loop-other l = (o : ℕ) → o < l.other → o ≢ l.rank
    → is_awake (place_of l.self o) ≡ false
