use Rattle.hall_turn.specs.Steps.{IsAt}
use Rattle.hall_turn.proofs.TurnLemmas.{Waits}
use Rattle.hall_turn.proofs.turns.Turns.await_turn.Given as goal

abbrev pub invariant-loop : goal.invariant-loop
invariant-loop g l =
    record { at : IsAt l.initial.seat l.seat; waits : Waits l.initial.seat.me.0 l.seat.me }
