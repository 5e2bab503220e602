use Rattle.std.proofs.Common.{◌≡◌, None, find, sym, subst, ◌∙◌, ap}
use Rattle.wall_rules.specs.Histories.{has}
use Rattle.coll_routes.specs.Rolls.{ranks}
use Rattle.wall_verdict.specs.Verdicts.{meets}
use Rattle.wall_verdict.proofs.InflowLemmas.{clear_spares, clear_offends, enough_is}
use Rattle.wall_verdict.proofs.MeetLemmas.{sanitised_spares, unsanitised_meets}
use Rattle.wall_verdict.proofs.case.Case.first_offender.Goals as goal

pub returns-then-is_enough-clause-least : goal.returns-then-is_enough-clause-least
returns-then-is_enough-clause-least c =
    let history = has c.args.self.now.histories.now in
    let wall = c.args.self.now.policy.now in
    let roll = c.args.self.now.roll.now in
    sanitised_spares wall history roll c.args.to (
    sym (enough_is wall roll c.args.to c.args.inflow.now.number
    c.args.inflow.now.different c.requires.whole.number c.requires.whole.different)
    ∙ sym c.is_enough.ensures ∙ c.if-is_enough.true
    )

pub returns-then-is_clear-clause-least : goal.returns-then-is_clear-clause-least
returns-then-is_clear-clause-least c =
    let classes = c.args.self.now.histories.now.classes in
    let history = has c.args.self.now.histories.now in
    let wall = c.args.self.now.policy.now in
    let roll = c.args.self.now.roll.now in
    clear_offends wall history roll c.args.to (
    subst (λ classes. find (meets classes history roll c.args.to)
    (ranks roll) ≡ None) c.args.self.now.classes (
    clear_spares classes history roll c.args.to
    c.at.result c.args.inflow.now c.at.ensures c.requires.whole
    (c.is_clear.ensures.unheld c.if-is_clear.true) (c.is_clear.ensures.apart c.if-is_clear.true)
    ))

pub returns-clause-least : goal.returns-clause-least
returns-clause-least c =
    let history = has c.args.self.now.histories.now in
    let wall = c.args.self.now.policy.now in
    let roll = c.args.self.now.roll.now in
    let unsanitised = sym (enough_is wall roll c.args.to
    c.args.inflow.now.number c.args.inflow.now.different c.requires.whole.number
    c.requires.whole.different) ∙ sym c.is_enough.ensures ∙ c.if-is_enough.false in
    c.first_meeting.ensures.least
    ∙ ap (λ classes. find (meets classes history roll c.args.to)
    (ranks roll)) c.args.self.now.classes
    ∙ unsanitised_meets wall history roll c.args.to
    unsanitised
