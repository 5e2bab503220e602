use Rattle.std.proofs.Common.{◌≢◌, ℕ, ◌<◌, ◌≤◌}
use Rattle.rank_stage.specs.declared.board.Place.TheVariants.{InLine}
use Rattle.rank_stage.specs.Boards.{place_of}
use Rattle.rank_stage.proofs.board.Board.first_in_line.Given as goal

abbrev pub invariant-loop-rank : goal.invariant-loop-rank
invariant-loop-rank l = (r : ℕ) → l.next ≤ r → r < l.rank → place_of l.self r ≢ InLine

abbrev pub invariant-loop-rank-2 : goal.invariant-loop-rank-2
invariant-loop-rank-2 l = (r : ℕ) → r < l.rank → place_of l.self r ≢ InLine
