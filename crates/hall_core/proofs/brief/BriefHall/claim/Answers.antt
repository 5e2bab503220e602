use Rattle.std.proofs.Common.{◌≡◌}
use Rattle.hall_core.specs.Briefs.{kept_in}
use Rattle.hall_core.specs.Claims.{to_take, claim_reply}
use Rattle.hall_core.specs.Invariant.{value_in}
use Rattle.hall_core.proofs.BriefLemmas.{brief_after, take_adds_nothing}
use Rattle.hall_core.proofs.MachineLemmas.{carried, each_claimed, kept_apart, replies_with}
use Rattle.hall_core.proofs.brief.BriefHall.claim.Goals as goal

pub invariant_of-self : goal.invariant_of-self
invariant_of-self c =
    brief_after c.self.inside.records c.claim.new.self (to_take c.args.process c.args.request)
    (claim_reply c.claim.result) c.self.invariant c.claim.ensures.keeps tt c.claim.ensures.steps

pub returns-clause-replies : goal.returns-clause-replies
returns-clause-replies c =
    rw (← c.self.view_is) (replies_with (value_in c.self.inside.records)
    (value_in c.claim.new.self) (to_take c.args.process c.args.request)
    (claim_reply c.claim.result) c.self.invariant.hall c.claim.ensures.keeps.policy tt
    c.claim.ensures.steps c.claim.ensures.unchanged)

pub returns-clause-carries : goal.returns-clause-carries
returns-clause-carries c =
    rw (← c.self.view_is) (carried (value_in c.self.inside.records) (value_in c.claim.new.self)
    (to_take c.args.process c.args.request) (claim_reply c.claim.result) c.self.invariant.hall
    c.claim.ensures.keeps.policy tt c.claim.ensures.steps)

pub returns-clause-apart : goal.returns-clause-apart
returns-clause-apart c =
    rw (← c.self.view_is) (kept_apart (value_in c.self.inside.records)
    (value_in c.claim.new.self) (to_take c.args.process c.args.request)
    (claim_reply c.claim.result) c.self.invariant.hall c.claim.ensures.keeps.policy tt
    c.claim.ensures.steps)

pub returns-clause-claims : goal.returns-clause-claims
returns-clause-claims c =
    rw (← c.self.view_is) (each_claimed (value_in c.self.inside.records) c.args.process
    c.args.request c.claim.result c.claim.ensures.holds)

pub returns-clause-same : goal.returns-clause-same
returns-clause-same c =
    let gone : c.claim.new.self.book.gone ≡ c.self.inside.records.book.gone =
    c.claim.ensures.keeps.gone in
    let news : kept_in c.claim.new.self ≡ kept_in c.self.inside.records =
    take_adds_nothing c.self.inside.records c.claim.new.self c.args.process c.args.request
    (claim_reply c.claim.result) c.self.invariant c.claim.ensures.keeps c.claim.ensures.steps in
    rw (← c.self.view_is)
    (λ i. record { hall = value_in c.claim.new.self; gone = gone i; news = news i })
