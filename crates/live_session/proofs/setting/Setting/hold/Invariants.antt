use Rattle.std.proofs.Common.{◌≡◌, []}
use Rattle.std.specs.Prelude.{option_map}
use Rattle.run_model.specs.Replies.{Legal}
use Rattle.hall_turn.specs.Answers.{IsSamePass}
use Rattle.hall_script.specs.Devices.{used}
use Rattle.live_session.specs.Sessions.{Stood}
use Rattle.live_session.specs.Keeping.{Keeps}
use Rattle.live_session.specs.Steps.{Counts}
use Rattle.live_session.proofs.SessionLemmas.{Going}
use Rattle.live_session.proofs.setting.Setting.hold.Given as goal

abbrev pub invariant-loop : goal.invariant-loop
invariant-loop g l = record {
  none : l.lines.text.items ≡ [];
  same : IsSamePass l.fn.pass l.pass;
  legal : Legal l.self.policy.now l.pass.seen;
  counts : Counts l.self.most l.caller.calls l.pass;
  keeps : Keeps l.caller.seat.requests l.pass;
  going : Going (Stood g.M.Machine.stands g.M.Machine.booked) l.self.most l.fn.caller.calls
      g.S.Desk.heard l.self.policy.now
      (used g.S.Desk.failures g.S.Desk.remaining l.fn.source l.source)
      (used g.O.Sink.failures g.O.Sink.contents l.fn.sink l.sink) l.fn.pass l.lines.line
      (option_map g.T.Receipt.covers l.caller.receipt) l.caller.calls l.pass;
}
