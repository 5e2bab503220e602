use Rattle.hall_core.specs.Invariant.{view_in}
use Rattle.hall_core.proofs.DueLemmas.{outcome_steps, due_not_quiet}
use Rattle.hall_core.proofs.records.Records.claim_looked.Goals as goal

pub returns-in-Outcome-clause-steps : goal.returns-in-Outcome-clause-steps
returns-in-Outcome-clause-steps c =
    outcome_steps (view_in c.args.self.now) (view_in c.close.new.self) c.args.process
    c.args.request c.in-Outcome.reply c.in-Outcome.it c.in-Outcome.ensures c.close.ensures.closes

pub returns-in-Outcome-clause-unchanged : goal.returns-in-Outcome-clause-unchanged
returns-in-Outcome-clause-unchanged c = λ quiet.
    absurd (due_not_quiet (view_in c.args.self.now) c.in-Outcome.it c.in-Outcome.reply
    c.in-Outcome.ensures.due quiet)
