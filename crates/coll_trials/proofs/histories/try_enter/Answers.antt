use Rattle.std.proofs.Common.{sym, subst, ◌∙◌}
use Rattle.std.specs.Ordering.{nat_cmp}
use Rattle.std.specs.FinSet.{FinSet}
use Rattle.wall_rules.specs.Rules.{HoldsNoRivals, joined}
use Rattle.wall_rules.specs.Histories.{has}
use Rattle.wall_rules.proofs.WallRulesLemmas.{no_rivals-empty, no_rivals-insert}
use Rattle.coll_trials.proofs.histories.try_enter.Goals as goal

pub enter-requires : goal.enter-requires
enter-requires c =
    let h = c.args.histories.now in
    let held = has h c.args.process in
    let alone = subst (λ (s : FinSet nat_cmp). HoldsNoRivals h.classes (joined held s))
    (sym c.empty-set.ensures)
    (no_rivals-empty h.classes held (c.clash.ensures.apart c.args.process)) in
    subst (λ (s : FinSet nat_cmp). HoldsNoRivals h.classes (joined held s)) (sym c.insert.ensures) (
    no_rivals-insert h.classes held c.empty-set.result c.args.dataset alone
    (sym c.clash.ensures.test ∙ c.in-None.is)
    )
