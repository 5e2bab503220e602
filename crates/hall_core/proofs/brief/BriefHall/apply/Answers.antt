use Rattle.std.proofs.Common.{sym, subst}
use Rattle.run_model.specs.Known.{HasKnownLabel}
use Rattle.run_model.specs.Runs.{entry}
use Rattle.hall_core.specs.Briefs.{Adds, BriefHallValue, kept_in}
use Rattle.hall_core.specs.Invariant.{value_in}
use Rattle.hall_core.proofs.BriefLemmas.{adds, brief_after}
use Rattle.hall_core.proofs.MachineLemmas.{carried, each_run, kept_apart, replies_with}
use Rattle.hall_core.proofs.brief.BriefHall.apply.Goals as goal

pub invariant_of-self : goal.invariant_of-self
invariant_of-self c =
    brief_after c.self.inside.records c.step.new.self c.args.call c.step.result c.self.invariant
    c.step.ensures.keeps
    (subst (λ (h : BriefHallValue). HasKnownLabel h.hall.policy c.args.call.act)
    (sym c.self.view_is) c.requires) c.step.ensures.steps

pub returns-clause-replies : goal.returns-clause-replies
returns-clause-replies c = rw (← c.self.view_is) (replies_with (value_in c.self.inside.records)
    (value_in c.step.new.self) c.args.call c.step.result c.self.invariant.hall
    c.step.ensures.keeps.policy
    (subst (λ (h : BriefHallValue). HasKnownLabel h.hall.policy c.args.call.act)
    (sym c.self.view_is) c.requires) c.step.ensures.steps c.step.ensures.unchanged)

pub returns-clause-carries : goal.returns-clause-carries
returns-clause-carries c = rw (← c.self.view_is) (carried (value_in c.self.inside.records)
    (value_in c.step.new.self) c.args.call c.step.result c.self.invariant.hall
    c.step.ensures.keeps.policy
    (subst (λ (h : BriefHallValue). HasKnownLabel h.hall.policy c.args.call.act)
    (sym c.self.view_is) c.requires) c.step.ensures.steps)

pub returns-clause-apart : goal.returns-clause-apart
returns-clause-apart c = rw (← c.self.view_is) (kept_apart (value_in c.self.inside.records)
    (value_in c.step.new.self) c.args.call c.step.result c.self.invariant.hall
    c.step.ensures.keeps.policy
    (subst (λ (h : BriefHallValue). HasKnownLabel h.hall.policy c.args.call.act)
    (sym c.self.view_is) c.requires) c.step.ensures.steps)

pub returns-clause-news : goal.returns-clause-news
returns-clause-news c = rw (← c.self.view_is) (each_run (value_in c.self.inside.records)
    (λ wall run. Adds wall run (entry c.args.call c.step.result) (kept_in c.self.inside.records)
    (kept_in c.step.new.self))
    (adds c.self.inside.records c.step.new.self c.args.call c.step.result c.self.invariant
    c.step.ensures.keeps c.step.ensures.steps))
