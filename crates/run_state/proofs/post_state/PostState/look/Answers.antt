use Rattle.std.proofs.Common.{◌≡◌, ap, sym, ◌∙◌, subst, length, List}
use Rattle.std.proofs.lemmas.Result.{IfOk-weaker}
use Rattle.coll_pending.specs.Waiting.{view_of_pending}
use Rattle.run_model.specs.Posts.{posts_on}
use Rattle.run_model.specs.Contributions.{Contribution, posts_of}
use Rattle.run_state.specs.declared.seat.Seat.{Seat}
use Rattle.run_state.specs.Views.{PostStateValue, view_of, fault_among, LookedAt}
use Rattle.run_state.specs.Stands.{StandsForPosts}
use Rattle.run_state.proofs.SeenLemmas.{fault_is, place_is_count}
use Rattle.run_state.proofs.post_state.PostState.look.Goals as goal

pub returns-clause-posts : goal.returns-clause-posts
returns-clause-posts g c = λ past stands.
    let inside : PostStateValue g.row.X.Denot = record {
      comms = c.self.inside.comms;
      lines = c.self.inside.pending;
      accesses = c.self.inside.histories;
    } in
    let now = subst
    (λ (k : PostStateValue g.row.X.Denot). StandsForPosts c.args.policy.now (view_of k) past)
    (sym c.self.view_is) stands in
    c.look.ensures.test
    ∙ (ap (λ n. fault_among n c.self.inside.comms (view_of_pending c.self.inside.pending)
    c.args.process c.args.comm c.args.terms.sig.now c.args.terms.own.now c.args.terms.elem_type
    c.args.terms.given)
    c.processes.ensures.number
    ∙ fault_is c.args.policy.now (view_of inside) past now c.self.invariant c.args.process
    c.args.comm c.args.terms.sig.now c.args.terms.own.now c.args.terms.elem_type
    c.args.terms.given)

pub returns-clause-place : goal.returns-clause-place
returns-clause-place g c =
    let inside : PostStateValue g.row.X.Denot = record {
      comms = c.self.inside.comms;
      lines = c.self.inside.pending;
      accesses = c.self.inside.histories;
    } in
    IfOk-weaker c.look.result
    (λ (seat : Seat). LookedAt (view_of inside) seat c.args.terms.sig.now c.args.terms.own.now
    c.args.terms.elem_type c.args.terms.given)
    (λ (seat : Seat). (past : List (Contribution g.row.X.Denot)) →
    StandsForPosts c.args.policy.now (view_of c.args.self.now) past →
    seat.meeting.k ≡ length (posts_on seat.meeting.comm seat.process (posts_of past)))
    (λ seat looked past stands. place_is_count c.args.policy.now (view_of inside) past
    (subst
    (λ (k : PostStateValue g.row.X.Denot). StandsForPosts c.args.policy.now (view_of k) past)
    (sym c.self.view_is) stands) seat c.args.terms.sig.now c.args.terms.own.now
    c.args.terms.elem_type c.args.terms.given looked) c.look.ensures.looked
