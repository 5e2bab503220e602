use Rattle.std.proofs.Common.{sym, subst, ap, ◌∙◌}
use Rattle.std.specs.FinSet.{insert}
use Rattle.wall_rules.specs.Histories.{has, entered}
use Rattle.wall_rules.specs.Rules.{HoldsNoRivals, joined}
use Rattle.wall_verdict.proofs.StarLemmas.{may_enter, label_entered}
use Rattle.wall_verdict.proofs.star.enter.Goals as goal

pub enter-requires : goal.enter-requires
enter-requires c =
    let one = c.insert.ensures ∙ ap (λ s. insert s c.in-Some.dataset) c.empty-set.ensures in
    subst (λ s. HoldsNoRivals c.args.histories.now.classes
    (joined (has c.args.histories.now c.args.process) s)) (sym one)
    (may_enter c.args.histories.now.classes (has c.args.histories.now) c.args.process
    c.in-Some.dataset c.args.label.now c.has.ensures.few c.has.ensures.apart c.requires
    (sym c.in-Some.ensures))

pub returns-then-not-has-clause-pairs : goal.returns-then-not-has-clause-pairs
returns-then-not-has-clause-pairs c =
    let one = c.insert.ensures ∙ ap (λ s. insert s c.in-Some.dataset) c.empty-set.ensures in
    c.enter.ensures.pairs
    ∙ (ap (λ s. entered (has c.args.histories.now) c.args.process s) one
    ∙ label_entered (has c.args.histories.now) c.args.process c.in-Some.dataset
    c.args.label.now (sym c.in-Some.ensures))
