use Rattle.std.proofs.Common.{sym, ◌∙◌}
use Rattle.wall_verdict.proofs.InflowLemmas.{enough_is}
use Rattle.wall_verdict.proofs.MeetLemmas.{sanitised_charges_none, unsanitised_charges}
use Rattle.wall_verdict.proofs.case.Case.charges.Goals as goal

pub returns-then-is_enough-clause-none : goal.returns-then-is_enough-clause-none
returns-then-is_enough-clause-none c none d =
    let wall = c.args.self.now.policy.now in
    let roll = c.args.self.now.roll.now in
    sanitised_charges_none wall roll c.args.to d
    (sym (enough_is wall roll c.args.to c.args.inflow.now.number
    c.args.inflow.now.different c.requires.whole.number c.requires.whole.different)
    ∙ sym c.is_enough.ensures ∙ c.if-is_enough.true)

pub returns-clause-some : goal.returns-clause-some
returns-clause-some c d =
    let wall = c.args.self.now.policy.now in
    let roll = c.args.self.now.roll.now in
    c.requires.whole.datasets d
    ∙ sym (unsanitised_charges wall roll c.args.to d
    (sym (enough_is wall roll c.args.to c.args.inflow.now.number
    c.args.inflow.now.different c.requires.whole.number c.requires.whole.different)
    ∙ sym c.is_enough.ensures ∙ c.if-is_enough.false))
