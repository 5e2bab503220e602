use Rattle.std.proofs.Common.{sym, subst}
use Rattle.run_model.specs.declared.call.Act.TheVariants.{Take}
use Rattle.run_model.specs.declared.refusal.Refusal.{Refusal}
use Rattle.run_model.specs.declared.reply.Reply.TheVariants.{Refused}
use Rattle.hall_core.specs.Invariant.{view_in}
use Rattle.hall_core.specs.Moves.{Steps}
use Rattle.hall_core.proofs.DueLemmas.{outcome_steps, due_not_quiet, grant_steps, grant_wanting}
use Rattle.hall_core.proofs.records.Records.take.Goals as goal

pub returns-in-Outcome-clause-steps : goal.returns-in-Outcome-clause-steps
returns-in-Outcome-clause-steps c =
    outcome_steps (view_in c.args.self.now) (view_in c.close.new.self) c.args.process
    c.args.request c.in-Outcome.reply c.in-Outcome.it c.in-Outcome.ensures c.close.ensures.closes

pub returns-in-Outcome-clause-unchanged : goal.returns-in-Outcome-clause-unchanged
returns-in-Outcome-clause-unchanged c = λ quiet.
    absurd (due_not_quiet (view_in c.args.self.now) c.in-Outcome.it c.in-Outcome.reply
    c.in-Outcome.ensures.due quiet)

pub returns-in-Ok-clause-steps : goal.returns-in-Ok-clause-steps
returns-in-Ok-clause-steps c =
    grant_steps (view_in c.args.self.now) c.args.process c.args.request c.in-Granted.full.now
    c.in-Granted.rank c.in-Granted.it c.in-Granted.ensures (view_in c.close-in-Ok.new.self)
    c.in-Ok.delivery c.in-Ok.ensures.delivered c.close-in-Ok.ensures.closes

pub returns-in-Err-clause-steps : goal.returns-in-Err-clause-steps
returns-in-Err-clause-steps c =
    subst (λ (f : Refusal). Steps (view_in c.args.self.now) (view_in c.args.self.now)
    c.args.process (Take c.args.request) (Refused f)) (sym c.from.ensures)
    (grant_wanting (view_in c.args.self.now) c.args.process c.args.request c.in-Granted.full.now
    c.in-Granted.rank c.in-Granted.it c.in-Granted.ensures)
