use Rattle.std.proofs.Common.{◌≡◌, ◌∙◌, List, Some, inl, sym, subst}
use Rattle.std.specs.Arc.{arc_value}
use Rattle.run_model.specs.declared.call.Act.TheVariants.{Take}
use Rattle.run_model.specs.declared.outcome.Outcome.TheVariants.{Granted}
use Rattle.run_model.specs.declared.refusal.Refusal.{Refusal}
use Rattle.run_model.specs.declared.refusal.Refusal.TheVariants.{NoMemory}
use Rattle.run_model.specs.declared.reply.Reply.TheVariants.{Pending, Refused}
use Rattle.hall_core.specs.Asking.{Asked, opened, requests_of}
use Rattle.hall_core.specs.Claims.{IsUngranted}
use Rattle.hall_core.specs.Halls.{HallView, settlement}
use Rattle.hall_core.specs.Invariant.{view_in}
use Rattle.hall_core.specs.Moves.{Steps}
use Rattle.hall_core.proofs.DueLemmas.{shared_wanting}
use Rattle.hall_core.proofs.TakeLemmas.{pending_due, quiet_steps}
use Rattle.hall_core.proofs.records.Records.claim.Goals as goal

pub claim_shared-requires-clause-waits : goal.claim_shared-requires-clause-waits
claim_shared-requires-clause-waits c =
    let waits = subst (λ (asked : List Asked).
    opened (requests_of asked c.args.process) c.args.request ≡ Some c.in-Some.asked)
    c.deref.ensures.value (sym c.in-Some.ensures.request) in
    subst (λ (h : HallView). opened (h.asked c.args.process) c.args.request ≡ Some c.in-Some.asked)
    (sym c.share.ensures.same) waits

pub claim_shared-requires-clause-granted : goal.claim_shared-requires-clause-granted
claim_shared-requires-clause-granted c =
    subst (λ (h : HallView). h.settled c.in-Some.asked.comm c.in-Some.asked.k
    ≡ Some (settlement (arc_value c.in-Given.full) Granted))
    (sym c.share.ensures.same) c.in-Given.ensures.shares

pub returns-in-Awaited-clause-steps : goal.returns-in-Awaited-clause-steps
returns-in-Awaited-clause-steps c =
    let hall = view_in c.args.self.now in
    let waits = subst (λ (asked : List Asked).
    opened (requests_of asked c.args.process) c.args.request ≡ Some c.in-Some.asked)
    c.deref.ensures.value (sym c.in-Some.ensures.request) in
    quiet_steps hall (view_in c.share.new.self) c.args.process (Take c.args.request) Pending
    c.share.ensures.same tt
    (λ m is stands. inl (sym (pending_due hall m stands c.args.process c.args.request
    c.in-Some.asked waits c.in-Awaited.ensures.shares)))

pub returns-in-Refused-clause-steps : goal.returns-in-Refused-clause-steps
returns-in-Refused-clause-steps c =
    let hall = view_in c.args.self.now in
    let waits = subst (λ (asked : List Asked).
    opened (requests_of asked c.args.process) c.args.request ≡ Some c.in-Some.asked)
    c.deref.ensures.value (sym c.in-Some.ensures.request) in
    let s = c.in-Refused.ensures.shares in
    let came : hall.settled c.in-Some.asked.comm c.in-Some.asked.k
    ≡ Some (settlement s.0.full Granted) =
    s.1.0 ∙ (λ i. Some (settlement s.0.full (s.1.1 i))) in
    subst (λ (f : Refusal). Steps hall (view_in c.share.new.self) c.args.process
    (Take c.args.request) (Refused f)) (sym c.from.ensures)
    (subst (λ (h : HallView). Steps hall h c.args.process (Take c.args.request) (Refused NoMemory))
    (sym c.share.ensures.same)
    (shared_wanting hall c.args.process c.args.request c.in-Some.asked s.0.full waits came))

pub claim_looked-requires-clause-ungranted : goal.claim_looked-requires-clause-ungranted
claim_looked-requires-clause-ungranted c =
    let waits = subst (λ (asked : List Asked).
    opened (requests_of asked c.args.process) c.args.request ≡ Some c.in-Some.asked)
    c.deref.ensures.value (sym c.in-Some.ensures.request) in
    let s = c.in-Withheld.ensures.shares in
    subst (λ (h : HallView). IsUngranted h c.args.process c.args.request)
    (sym c.share.ensures.same)
    (record { asked = c.in-Some.asked; waits = waits; outcome = s.0; came = s.1.0; other = s.1.1 })
