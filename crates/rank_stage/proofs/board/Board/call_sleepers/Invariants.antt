use Rattle.std.proofs.Common.{◌⊎◌, ℕ, ◌<◌, ◌≤◌}
use Rattle.rank_stage.specs.Boards.{HasHeard, PlaysAlone, Stays, HasBeenCalled, KeepsRest}
use Rattle.rank_stage.proofs.board.Board.call_sleepers.Given as goal

abbrev pub invariant-loop-rank : goal.invariant-loop-rank
invariant-loop-rank l = record {
  heard : (r : ℕ) → r < l.rank → HasHeard l.self r;
  one : PlaysAlone l.self;
  moves : (r : ℕ) → Stays l.fn.self l.self r ⊎ HasBeenCalled l.fn.self l.self r;
  still : (r : ℕ) → l.rank ≤ r → Stays l.fn.self l.self r;
  rest : KeepsRest l.fn.self l.self;
}
