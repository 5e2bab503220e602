use Rattle.std.proofs.Common.{◌≡◌, None, find, subst}
use Rattle.wall_rules.specs.Histories.{has}
use Rattle.coll_routes.specs.Rolls.{ranks}
use Rattle.wall_verdict.specs.Verdicts.{meets}
use Rattle.wall_verdict.proofs.InflowLemmas.{clear_offends}
use Rattle.wall_verdict.proofs.case.Case.offender.Goals as goal

pub returns-then-is_spared-clause-least : goal.returns-then-is_spared-clause-least
returns-then-is_spared-clause-least c =
    let history = has c.args.self.now.histories.now in
    let wall = c.args.self.now.policy.now in
    let roll = c.args.self.now.roll.now in
    clear_offends wall history roll c.args.to (
    subst (λ classes. find (meets classes history roll c.args.to)
    (ranks roll) ≡ None) c.args.self.now.classes (c.is_spared.ensures c.if-is_spared.true)
    )
