use Rattle.std.proofs.Common.{sym, subst, ◌∙◌}
use Rattle.hall_core.specs.Halls.{HallValue}
use Rattle.hall_core.specs.Invariant.{value_in, view_in}
use Rattle.run_model.specs.Known.{HasKnownLabel}
use Rattle.hall_core.proofs.ApplyLemmas.{applied, applied_apart}
use Rattle.hall_core.proofs.NamedLemmas.{is_hall_after, step_named}
use Rattle.hall_core.proofs.hall.Hall.apply.Goals as goal

pub invariant_of-self : goal.invariant_of-self
invariant_of-self c = record {
  hall =
      is_hall_after (view_in c.self.inside.records) (view_in c.step.new.self)
      c.args.call.process c.args.call.act c.step.result c.self.invariant.hall
      c.step.ensures.keeps.policy
      (subst (λ (h : HallValue). HasKnownLabel h.policy c.args.call.act) (sym c.self.view_is)
      c.requires) c.step.ensures.steps;
  none = c.step.ensures.keeps.gone ∙ c.self.invariant.none;
}

pub returns-clause-runs : goal.returns-clause-runs
returns-clause-runs c = rw (← c.self.view_is) (applied (value_in c.self.inside.records)
    (value_in c.step.new.self) c.args.call c.step.result c.step.ensures.keeps.policy
    c.step.ensures.steps)

pub returns-clause-apart : goal.returns-clause-apart
returns-clause-apart c = rw (← c.self.view_is) (applied_apart (value_in c.self.inside.records)
    (value_in c.step.new.self) c.args.call c.step.result c.self.invariant.hall.policy
    c.step.ensures.keeps.policy c.step.ensures.steps)

pub returns-clause-named : goal.returns-clause-named
returns-clause-named c =
    rw c.step.ensures.keeps.policy (step_named (view_in c.self.inside.records)
    (view_in c.step.new.self) c.args.call.process c.args.call.act c.step.result
    c.self.invariant.hall
    (subst (λ (h : HallValue). HasKnownLabel h.policy c.args.call.act) (sym c.self.view_is)
    c.requires) c.step.ensures.steps)
