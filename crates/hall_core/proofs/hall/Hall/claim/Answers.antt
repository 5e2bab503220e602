use Rattle.std.proofs.Common.{◌∙◌}
use Rattle.hall_core.specs.Invariant.{value_in, view_in}
use Rattle.hall_core.specs.Claims.{to_take, claim_reply}
use Rattle.hall_core.proofs.ApplyLemmas.{applied, applied_apart, claimed}
use Rattle.hall_core.proofs.NamedLemmas.{is_hall_after, step_named}
use Rattle.hall_core.proofs.hall.Hall.claim.Goals as goal

pub invariant_of-self : goal.invariant_of-self
invariant_of-self c = record {
  hall =
      is_hall_after (view_in c.self.inside.records) (view_in c.claim.new.self) c.args.process
      (to_take c.args.process c.args.request).act (claim_reply c.claim.result)
      c.self.invariant.hall c.claim.ensures.keeps.policy tt
      c.claim.ensures.steps;
  none = c.claim.ensures.keeps.gone ∙ c.self.invariant.none;
}

pub returns-clause-runs : goal.returns-clause-runs
returns-clause-runs c =
    rw (← c.self.view_is) (applied (value_in c.self.inside.records) (value_in c.claim.new.self)
    (to_take c.args.process c.args.request) (claim_reply c.claim.result)
    c.claim.ensures.keeps.policy c.claim.ensures.steps)

pub returns-clause-apart : goal.returns-clause-apart
returns-clause-apart c =
    rw (← c.self.view_is)
    (applied_apart (value_in c.self.inside.records) (value_in c.claim.new.self)
    (to_take c.args.process c.args.request) (claim_reply c.claim.result)
    c.self.invariant.hall.policy c.claim.ensures.keeps.policy c.claim.ensures.steps)

pub returns-clause-claims : goal.returns-clause-claims
returns-clause-claims c =
    rw (← c.self.view_is) (claimed (value_in c.self.inside.records) c.args.process c.args.request
    c.claim.result c.claim.ensures.holds)

pub returns-clause-named : goal.returns-clause-named
returns-clause-named c =
    rw c.claim.ensures.keeps.policy (step_named (view_in c.self.inside.records)
    (view_in c.claim.new.self) c.args.process
    (to_take c.args.process c.args.request).act (claim_reply c.claim.result)
    c.self.invariant.hall tt c.claim.ensures.steps)
