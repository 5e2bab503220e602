use Rattle.std.proofs.Common.{◌∙◌, ◌++◌, ap}
use Rattle.run_model.specs.declared.call.Act.TheVariants.{Take}
use Rattle.hall_turn.specs.Runs.{calls_of}
use Rattle.rank_run.specs.Waits.{pending_takes}
use Rattle.joint_sum.proofs.firm.exchange.Goals as goal

pub returns-clause-told : goal.returns-clause-told
returns-clause-told g c =
    let before = c.post.new.pass in
    let after = c.wait.new.pass in
    let request = c.in-Reply-Posted.request in
    let waited = c.in-Reply.ensures.waited in (
      record { process = before.process; act = Take request },
      pending_takes before.process request waited.again ++ calls_of before.process before.seen,
      ap (λ p. calls_of p after.seen) c.in-Reply.ensures.same.1 ∙ waited.own,
    )

pub returns-clause-line : goal.returns-clause-line
returns-clause-line g c = c.in_ok-write_reply.ensures.ok

pub returns-clause-waited : goal.returns-clause-waited
returns-clause-waited g c = (
  c.in-Reply-Posted.request,
  c.post.new.pass,
  (rw c.in-Reply-Posted.field-0-is at c.in-Reply-Posted.ensures.answered),
  c.in-Reply.ensures.waited,
)
