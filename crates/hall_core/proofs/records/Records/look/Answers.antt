use Rattle.std.proofs.Common.{◌≡◌, List, Some, sym, ap, ◌∙◌, subst}
use Rattle.hall_core.specs.declared.settled.Place.{Place}
use Rattle.hall_core.specs.Asking.{Asked, opened, requests_of}
use Rattle.hall_core.specs.Invariant.{view_in}
use Rattle.hall_core.proofs.DueLemmas.{finds_pending}
use Rattle.hall_core.proofs.records.Records.look.Goals as goal

pub returns-in_default-settlement : goal.returns-in_default-settlement
returns-in_default-settlement c =
    finds_pending (view_in c.args.self.now) c.args.process c.args.request c.in-Some.asked
    (subst (λ (asked : List Asked). opened (requests_of asked c.args.process) c.args.request
    ≡ Some c.in-Some.asked) c.deref.ensures.value (sym c.in-Some.ensures.request))
    (ap (λ (p : Place). p.settlement) (sym c.in-Some-place.ensures) ∙ c.in_default-settlement.is)
