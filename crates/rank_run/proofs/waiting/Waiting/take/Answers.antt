use Rattle.std.proofs.Common.{sym, subst}
use Rattle.run_model.specs.declared.call.Act.TheVariants.{Take as ToTake}
use Rattle.run_model.specs.declared.reply.Reply.{Reply}
use Rattle.run_model.specs.Runs.{entry}
use Rattle.hall_turn.specs.Answers.{Enters}
use Rattle.rank_run.proofs.waiting.Waiting.take.Goals as goal

pub returns-in-Claim-clause-answered : goal.returns-in-Claim-clause-answered
returns-in-Claim-clause-answered g c =
    let before = c.args.pass.now in
    subst (λ (r : Reply). Enters before
    (entry (record { process = before.process; act = ToTake c.args.self.now.request }) r)
    c.claim.new.pass)
    (sym c.reply_aside.ensures) c.in-Claim.ensures.answered.enters
