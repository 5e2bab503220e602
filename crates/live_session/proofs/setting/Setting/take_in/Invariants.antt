use Rattle.std.proofs.Common.{◌≡◌, ℕ, List, [], ◌∷◌, length}
use Rattle.std.specs.Prelude.{option_map}
use Rattle.run_model.specs.Replies.{Legal}
use Rattle.hall_turn.specs.Answers.{IsSamePass}
use Rattle.hall_script.specs.Devices.{used}
use Rattle.coll_text.specs.Reading.{parts}
use Rattle.live_session.specs.Sessions.{Stood}
use Rattle.live_session.specs.Keeping.{Keeps}
use Rattle.live_session.specs.Steps.{Counts, Holds, IsUnread, SoFar, behind, counting, showing}
use Rattle.live_session.proofs.setting.Setting.take_in.Given as goal

abbrev pub invariant-loop-part : goal.invariant-loop-part
invariant-loop-part g l = record {
  none : l.lines.text.items ≡ [];
  same : IsSamePass l.fn.pass l.pass;
  legal : Legal l.self.policy.now l.pass.seen;
  unread : IsUnread g.S.Desk.failures g.S.Desk.remaining g.S.Desk.heard l.fn.source l.source;
  so_far : (start : List ℕ) → Holds l.fn.lines.line start → (line : List ℕ)
      × Holds l.lines.line line × SoFar (Stood g.M.Machine.stands g.M.Machine.booked)
      l.self.most l.self.policy.now l.fn.pass (behind start (parts 10 l.bytes)) (line ∷ l.parts)
      (showing g.S.Desk.heard l.fn.source l.source
      (option_map g.T.Receipt.covers l.fn.caller.receipt)
      (option_map g.T.Receipt.covers l.caller.receipt))
      (used g.O.Sink.failures g.O.Sink.contents l.fn.sink l.sink)
      (counting l.fn.caller.calls l.caller.calls) l.pass;
  counts : Counts l.self.most l.caller.calls l.pass;
  keeps : Keeps l.caller.seat.requests l.pass;
}

abbrev pub decreases-loop-part : goal.decreases-loop-part
decreases-loop-part g l = length l.parts
