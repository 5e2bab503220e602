use Rattle.std.proofs.Common.{subst, IfSome}
use Rattle.wall_rules.specs.Histories.{has}
use Rattle.wall_verdict.specs.Inflows.{IsLabelled}
use Rattle.wall_verdict.proofs.InflowLemmas.{labels_spare, unreached_meets}
use Rattle.wall_verdict.proofs.case.Case.is_spared.Goals as goal

pub returns-in-Some : goal.returns-in-Some
returns-in-Some c clear =
    let classes = c.args.self.now.histories.now.classes in
    let roll = c.args.self.now.roll.now in
    labels_spare classes (has c.args.self.now.histories.now) roll c.args.to c.at.result
    c.in-Some.labels c.at.ensures
    (subst (λ o. IfSome o (IsLabelled classes roll roll.shape.size)) c.in-Some.is
    c.requires.collected.labels)
    (c.is_clear.ensures.unheld clear) (c.is_clear.ensures.apart clear)

pub returns-in-None : goal.returns-in-None
returns-in-None c far =
    unreached_meets c.args.self.now.roll.now c.args.to (c.is_out_of_reach.ensures far)
    c.args.self.now.histories.now.classes (has c.args.self.now.histories.now)
