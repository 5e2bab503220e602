use Rattle.std.proofs.Common.{subst, IfSome, ap, ◌∙◌}
use Rattle.std.specs.Prelude.{unwrap_or}
use Rattle.wall_rules.specs.Histories.{has}
use Rattle.wall_verdict.specs.Inflows.{IsLabelled}
use Rattle.wall_verdict.proofs.InflowLemmas.{labels_have, unreached_gets}
use Rattle.wall_verdict.proofs.case.Case.has_all.Goals as goal

pub returns-in-Some : goal.returns-in-Some
returns-in-Some c all d comes =
    let classes = c.args.self.now.histories.now.classes in
    let roll = c.args.self.now.roll.now in
    let labelled = subst (λ o. IfSome o (IsLabelled classes roll roll.shape.size)) c.in-Some.is
    c.requires.collected.labels in
    ap (λ o. has c.args.self.now.histories.now (unwrap_or o 0) d) c.at-member.ensures
    ∙ c.has_all.ensures.0 all d
    (labels_have classes roll c.args.to c.in-Some.labels labelled d comes)

pub returns-in-None : goal.returns-in-None
returns-in-None c far d comes =
    let roll = c.args.self.now.roll.now in
    absurd (unreached_gets roll c.args.to (c.is_out_of_reach.ensures far) d comes)
