use Rattle.std.proofs.Common.{◌≡◌, ◌+◌, ◌-◌}
use Rattle.run_model.specs.Replies.{joined}
use Rattle.hall_core.specs.Moves.{row_at}
use Rattle.hall_core.proofs.takes.joined.Given as goal

abbrev pub invariant-loop-comm : goal.invariant-loop-comm
invariant-loop-comm l = record {
  end : l.end ≡ l.first + l.number;
  rest : joined l.member l.first (row_at l.post_state.comms l.first l.number)
      ≡ joined l.member l.comm (row_at l.post_state.comms l.comm (l.end - l.comm));
}
