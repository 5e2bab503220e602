use Rattle.std.proofs.Common.{sym, subst, ◌∙◌, ap, None}
use Rattle.wall_rules.specs.Histories.{has, NobodyHoldsRivals}
use Rattle.wall_verdict.specs.Verdicts.{first_offence, verdict, verdict_by}
use Rattle.wall_verdict.proofs.LawLemmas.{granted_apart}
use Rattle.wall_verdict.proofs.case.Case.judge.Goals as goal

pub returns-in-None-clause-apart : goal.returns-in-None-clause-apart
unfolding verdict
returns-in-None-clause-apart c =
    let wall = c.args.self.now.policy.now in
    let old = has c.args.self.now.histories.now in
    let roll = c.args.self.now.roll.now in
    λ granted. granted_apart wall old roll c.args.self.now.fit
    (subst (λ classes. NobodyHoldsRivals classes old) c.args.self.now.classes c.keep_apart.ensures)
    (ap (λ b. verdict_by roll b (first_offence wall old roll))
    (sym c.first_barred.ensures.least ∙ c.in_default.is)
    ∙ ap (λ o. verdict_by roll None o) (sym c.in-None.ensures.least))
