use Rattle.std.proofs.Common.{◌≢◌, ℕ, ◌<◌}
use Rattle.rank_stage.specs.declared.board.Instance.{Instance}
use Rattle.rank_stage.specs.declared.board.Place.TheVariants.{Sleeps}
use Rattle.rank_stage.specs.Boards.{place_of}
use Rattle.rank_stage.proofs.board.Board.first_asleep.Given as goal

abbrev pub invariant-loop-rank : goal.invariant-loop-rank
invariant-loop-rank l = (r : ℕ) (it : Instance) → r < l.rank → place_of l.self r ≢ Sleeps it
