use Rattle.std.proofs.Common.{◌⊎◌, ℕ, ◌<◌, ◌≤◌}
use Rattle.rank_stage.specs.Boards.{PlaysAlone, Stays, HasBeenWoken, KeepsRest, SleepsForNothing}
use Rattle.rank_stage.proofs.board.Board.call_all_asleep.Given as goal

abbrev pub invariant-loop-rank : goal.invariant-loop-rank
invariant-loop-rank l = record {
  none : (r : ℕ) → r < l.rank → SleepsForNothing l.self r;
  one : PlaysAlone l.self;
  moves : (r : ℕ) → Stays l.fn.self l.self r ⊎ HasBeenWoken l.fn.self l.self r;
  still : (r : ℕ) → l.rank ≤ r → Stays l.fn.self l.self r;
  rest : KeepsRest l.fn.self l.self;
}
