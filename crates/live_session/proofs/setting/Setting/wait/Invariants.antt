use Rattle.std.specs.Prelude.{option_map}
use Rattle.run_model.specs.declared.reply.Reply.TheVariants.{Pending}
use Rattle.run_model.specs.Replies.{Legal}
use Rattle.hall_turn.specs.declared.answer.Answer.TheVariants.{Reply as Replied}
use Rattle.hall_turn.specs.Answers.{IsSamePass}
use Rattle.live_session.specs.Sessions.{Stood}
use Rattle.live_session.specs.Keeping.{Keeps}
use Rattle.live_session.specs.Steps.{Waited}
use Rattle.live_session.proofs.setting.Setting.wait.Given as goal

abbrev pub invariant-loop : goal.invariant-loop
invariant-loop g l = record {
  same : IsSamePass l.fn.pass l.pass;
  legal : Legal l.self.door.now.policy l.pass.seen;
  waited : Waited (Stood g.M.Machine.stands g.M.Machine.booked) l.fn.pass l.request
      (Replied Pending) (option_map g.T.Receipt.covers l.receipt) l.pass;
  keeps : Keeps l.seat.requests l.pass;
}
