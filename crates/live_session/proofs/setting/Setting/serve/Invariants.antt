use Rattle.run_model.specs.Replies.{Legal}
use Rattle.hall_turn.specs.Answers.{IsSamePass}
use Rattle.live_session.specs.Sessions.{Stood}
use Rattle.live_session.specs.Keeping.{Keeps}
use Rattle.live_session.specs.Sittings.{at}
use Rattle.live_session.specs.Steps.{Counts}
use Rattle.live_session.proofs.SittingLemmas.{HasSat}
use Rattle.live_session.proofs.setting.Setting.serve.Given as goal

abbrev pub invariant-loop : goal.invariant-loop
invariant-loop g l = record {
  same : IsSamePass l.fn.pass l.pass;
  legal : Legal l.self.policy.now l.pass.seen;
  counts : Counts l.self.most l.calls l.pass;
  keeps : Keeps l.seat.requests l.pass;
  sat : HasSat (Stood g.M.Machine.stands g.M.Machine.booked) l.self.most g.S.Desk.failures
      g.S.Desk.remaining g.S.Desk.heard g.O.Sink.failures g.O.Sink.contents l.self.policy.now
      (at l.fn.source l.fn.sink l.fn.pass) (at l.source l.sink l.pass) l.calls;
}
