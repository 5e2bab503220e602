use Rattle.std.proofs.Common.{◌∙◌, sym, subst}
use Rattle.run_model.specs.declared.reply.Reply.{Reply}
use Rattle.hall_core.specs.Halls.{HallValue, view_of}
use Rattle.hall_core.specs.Invariant.{value_in, view_in}
use Rattle.hall_core.specs.Claims.{to_take}
use Rattle.hall_core.specs.Looks.{IsDue}
use Rattle.hall_core.proofs.ApplyLemmas.{applied, applied_apart}
use Rattle.hall_core.proofs.DueLemmas.{due_steps}
use Rattle.hall_core.proofs.NamedLemmas.{is_hall_after}
use Rattle.hall_core.proofs.hall.Hall.close.Goals as goal

pub close-requires : goal.close-requires
close-requires c =
    let due = subst (λ (h : HallValue). (got : Reply) × IsDue (view_of h) c.args.it got)
    (sym c.self.view_is) c.requires in
    (due.1.outcome, due.1.is_open)

pub invariant_of-self : goal.invariant_of-self
invariant_of-self c =
    let due = subst (λ (h : HallValue). (got : Reply) × IsDue (view_of h) c.args.it got)
    (sym c.self.view_is) c.requires in
    record {
      hall =
          is_hall_after (view_in c.self.inside.records) (view_in c.close.new.self)
          c.args.it.process (to_take c.args.it.process c.args.it.request).act due.0
          c.self.invariant.hall c.close.ensures.keeps.policy tt
          (due_steps (view_in c.self.inside.records) (view_in c.close.new.self)
          c.args.it due.0 due.1 c.close.ensures.closes);
      none = c.close.ensures.keeps.gone ∙ c.self.invariant.none;
    }

pub returns-clause-runs : goal.returns-clause-runs
returns-clause-runs c =
    rw (← c.self.view_is) (λ got due. applied (value_in c.self.inside.records)
    (value_in c.close.new.self) (to_take c.args.it.process c.args.it.request) got
    c.close.ensures.keeps.policy (due_steps (view_of (value_in c.self.inside.records))
    (view_of (value_in c.close.new.self)) c.args.it got due c.close.ensures.closes))

pub returns-clause-apart : goal.returns-clause-apart
returns-clause-apart c =
    rw (← c.self.view_is) (λ got due. applied_apart (value_in c.self.inside.records)
    (value_in c.close.new.self) (to_take c.args.it.process c.args.it.request) got
    c.self.invariant.hall.policy c.close.ensures.keeps.policy
    (due_steps (view_of (value_in c.self.inside.records)) (view_of (value_in c.close.new.self))
    c.args.it got due c.close.ensures.closes))
