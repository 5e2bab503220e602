use Rattle.std.proofs.Common.{◌<◌, ◌^◌, ℕ, List, None, Some, length, sym, ap, ◌∙◌, subst}
use Rattle.std.specs.Prelude.{if◌then◌else◌, IfNone, Option}
use Rattle.std.specs.Result.{result_err}
use Rattle.mpi_elems.specs.declared.elem_type.ElemType.{ElemType}
use Rattle.run_model.specs.Comms.{processes}
use Rattle.run_model.specs.Refusals.{fault}
use Rattle.run_model.specs.declared.refusal.Refusal.{Refusal}
use Rattle.run_model.specs.declared.refusal.Refusal.TheVariants.{TooManyRequests}
use Rattle.run_model.specs.Runs.{given_in}
use Rattle.run_model.specs.Replies.{posts_made, is_limit_reached}
use Rattle.run_state.specs.Views.{LookedAt, view_of as seen}
use Rattle.hall_core.specs.Asking.{Asked, requests_of, open_number}
use Rattle.hall_core.specs.Invariant.{view_in}
use Rattle.hall_core.proofs.PostLemmas.{refusal_is, known_process}
use Rattle.hall_core.proofs.records.Records.seat_of.Goals as goal

abbrev limited : List Asked → ℕ → Option Refusal
limited a p = if is_limit_reached (open_number (requests_of a p)) (length (requests_of a p))
    then Some TooManyRequests else None

pub returns-in-Some-clause-first : goal.returns-in-Some-clause-first
returns-in-Some-clause-first c = λ m stands.
    sym c.in-Some.is
    ∙ (c.refusal.ensures.test
    ∙ (ap (λ (a : List Asked). limited a c.args.process) c.deref.ensures.value
    ∙ refusal_is (view_in c.args.self.now) m stands c.args.process c.args.posting.now
    ((λ i. fault c.args.self.now.policy (posts_made m) c.args.process c.args.posting.now.comm
    c.args.posting.now.sig c.args.posting.now.own (sym c.elem_type.ensures.kind i)
    (sym c.given.ensures i))
    ∙ (sym (c.look-looked.ensures.posts m.contributions stands.post_state)
    ∙ ap result_err c.in-Ok.is))))

pub returns-in-None-clause-first : goal.returns-in-None-clause-first
returns-in-None-clause-first c = λ m stands.
    sym c.in-None.is
    ∙ (c.refusal.ensures.test
    ∙ (ap (λ (a : List Asked). limited a c.args.process) c.deref.ensures.value
    ∙ refusal_is (view_in c.args.self.now) m stands c.args.process c.args.posting.now
    ((λ i. fault c.args.self.now.policy (posts_made m) c.args.process c.args.posting.now.comm
    c.args.posting.now.sig c.args.posting.now.own (sym c.elem_type.ensures.kind i)
    (sym c.given.ensures i))
    ∙ (sym (c.look-looked.ensures.posts m.contributions stands.post_state)
    ∙ ap result_err c.in-Ok.is))))

pub refusal-requires : goal.refusal-requires
refusal-requires c =
    let known = known_process c.args.self.now.policy (seen c.args.self.now.post_state)
    c.args.process c.args.posting.now.comm c.args.posting.now.sig c.args.posting.now.own
    c.elem_type.result c.given.result
    (sym c.look-looked.ensures.test ∙ ap result_err c.in-Ok.is) in
    subst (λ (a : List Asked). c.args.process < length a) (sym c.deref.ensures.value)
    (subst (λ n. c.args.process < n) (sym c.args.self.now.each) known)

pub returns-in-None-clause-seat : goal.returns-in-None-clause-seat
returns-in-None-clause-seat c =
    let known = known_process c.args.self.now.policy (seen c.args.self.now.post_state)
    c.args.process c.args.posting.now.comm c.args.posting.now.sig c.args.posting.now.own
    c.elem_type.result c.given.result
    (sym c.look-looked.ensures.test ∙ ap result_err c.in-Ok.is) in
    let few : length (requests_of c.args.self.now.requests.items c.args.process) < 2 ^ 62 =
    subst (λ (a : List Asked). length (requests_of a c.args.process) < 2 ^ 62)
    c.deref.ensures.value
    (subst (λ (o : Option Refusal). IfNone o
    (length (requests_of c.deref.result.now c.args.process) < 2 ^ 62))
    c.in-None.is c.refusal.ensures.few) in
    let own = sym c.in-Ok.ensures.process in
    record {
      process = c.in-Ok.ensures.process;
      comm = c.in-Ok.ensures.comm;
      looked =
          subst (λ (ty : ElemType). LookedAt (seen c.args.self.now.post_state) c.in-Ok.seat
          c.args.posting.now.sig c.args.posting.now.own ty (given_in c.args.posting.now))
          c.elem_type.ensures.kind
          (subst (λ n. LookedAt (seen c.args.self.now.post_state) c.in-Ok.seat
          c.args.posting.now.sig c.args.posting.now.own c.elem_type.result n)
          c.given.ensures c.in-Ok.ensures.looked);
      may = record {
        process = subst (λ n. n < processes c.args.self.now.policy) own known;
        few = subst (λ n. length (requests_of c.args.self.now.requests.items n) < 2 ^ 62) own few;
      };
    }
