use Rattle.hall_script.proofs.answer.answered.Goals as goal

pub returns-in-Ok-clause-finished : goal.returns-in-Ok-clause-finished
returns-in-Ok-clause-finished g c = record {
  wall_is = c.answer_script.ensures.wall;
  went = c.answer_script.ensures.went (λ k. absurd cc);
  finishes = c.in-Ok.ensures.replays;
}

pub returns-in-Err-clause-stopped : goal.returns-in-Err-clause-stopped
returns-in-Err-clause-stopped g c = record {
  machine = c.answer_script.new.machine;
  went = c.in-Err.ensures.went;
  broke = c.in-Err.ensures.failed;
  finishes = c.in-Err.ensures.replays;
}
