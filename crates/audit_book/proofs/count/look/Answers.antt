use Rattle.std.proofs.Common.{◌≡◌, ◌∙◌, subst}
use Rattle.std.specs.Prelude.{IfOk}
use Rattle.mpi_elems.specs.declared.elem_type.ElemType.{ElemType}
use Rattle.coll_routes.specs.declared.signature.Signature.{Signature}
use Rattle.coll_routes.specs.declared.statement.Own.{Own}
use Rattle.coll_routes.specs.Faults.{stated_type}
use Rattle.run_model.specs.Refusals.{fault}
use Rattle.run_state.specs.declared.seat.Seat.{Seat}
use Rattle.run_state.specs.Views.{LookedAt, view_of}
use Rattle.audit_book.specs.Checks.{bare}
use Rattle.audit_book.proofs.CheckLemmas.{bare_posts}
use Rattle.audit_book.proofs.count.look.Goals as goal

pub returns-clause-fault : goal.returns-clause-fault
returns-clause-fault c = λ past stands.
    let of = c.of-terms.ensures in
    c.look.ensures.posts (bare past) stands
    ∙ (λ i. fault c.args.policy.now (bare_posts past i) (c.number.ensures.value i)
    c.args.posting.now.comm (of.sig i) (of.own i) (of.elem_type i) (of.given i))

pub returns-clause-process : goal.returns-clause-process
returns-clause-process c =
    subst (λ n. IfOk c.look.result (λ (seat : Seat). seat.process ≡ n)) c.number.ensures.value
    c.look.ensures.process

pub returns-clause-looked : goal.returns-clause-looked
returns-clause-looked c =
    let seen = view_of c.args.post_state.now in
    let it = c.args.posting.now.stated.now in
    let terms = c.of-terms.result in
    let of = c.of-terms.ensures in
    subst (λ n. IfOk c.look.result (λ (seat : Seat).
    LookedAt seen seat it.sig it.own (stated_type it.sig) n)) of.given
    (subst (λ (t : ElemType). IfOk c.look.result (λ (seat : Seat).
    LookedAt seen seat it.sig it.own t terms.given)) of.elem_type
    (subst (λ (o : Own). IfOk c.look.result (λ (seat : Seat).
    LookedAt seen seat it.sig o terms.elem_type terms.given)) of.own
    (subst (λ (s : Signature). IfOk c.look.result (λ (seat : Seat).
    LookedAt seen seat s terms.own.now terms.elem_type terms.given))
    of.sig c.look.ensures.looked)))
