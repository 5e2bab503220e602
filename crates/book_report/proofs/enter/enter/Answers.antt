use Rattle.std.proofs.Common.{◌≡◌, ◌∙◌, sym, ap, subst}
use Rattle.std.specs.Result.{result_err}
use Rattle.mpi_elems.specs.declared.elem_type.ElemType.{ElemType}
use Rattle.coll_routes.specs.declared.signature.Signature.{Signature}
use Rattle.coll_routes.specs.declared.statement.Own.{Own}
use Rattle.coll_routes.specs.declared.statement.Stated.{Stated}
use Rattle.coll_routes.specs.Faults.{stated_type}
use Rattle.run_model.specs.Posts.{Post}
use Rattle.run_model.specs.Books.{IsCounted}
use Rattle.run_state.specs.Views.{view_of, fault_of, LookedAt}
use Rattle.audit_book.specs.Checks.{bare, post_of}
use Rattle.audit_book.proofs.AuditBookLemmas.{accepted_is, word_is, few_is}
use Rattle.book_report.specs.Held.{posts_to}
use Rattle.book_report.specs.Places.{post_in}
use Rattle.book_report.proofs.CountLemmas.{counts_at}
use Rattle.book_report.proofs.WalkLemmas.{entered_is, few_posts, stands_posted}
use Rattle.book_report.proofs.enter.enter.Goals as goal

pub unreachable-requires : goal.unreachable-requires
unreachable-requires c =
    let wall = c.args.place.now.policy.now in
    let entries = c.args.place.now.book.now.list in
    let past = posts_to entries c.args.place.now.at in
    let seen = view_of c.args.post_state.now in
    let p = c.args.posting.now.process in
    let comm = c.args.posting.now.comm in
    let s = c.in_ok-stated.stated in
    let test : result_err c.look.result
    ≡ fault_of wall seen p comm s.sig s.own (stated_type s.sig) s.given =
    c.look.ensures.test ∙ (λ i. fault_of wall seen (c.number.ensures.value i) comm
    (c.of-terms.ensures.sig i) (c.of-terms.ensures.own i) (c.of-terms.ensures.elem_type i)
    (c.of-terms.ensures.given i)) in
    let counts = counts_at wall entries c.args.place.now.at (post_in c.args.posting.now)
    c.requires.place.sound c.requires.here in
    let bad = sym (ap result_err c.in-Err.is) ∙ (test
    ∙ accepted_is wall seen past c.len.ensures.post_state c.requires.stands p comm s
    (subst (λ (q : Stated). IsCounted wall (post_of p comm q) past)
    (sym c.in_ok-stated.ensures.made) counts)) in
    absurd (cc)

pub enter-requires-clause-looked : goal.enter-requires-clause-looked
enter-requires-clause-looked c =
    let seen = view_of c.args.post_state.now in
    let it = c.in_ok-stated.stated in
    let terms = c.of-terms.result in
    let seat = c.in-Ok.seat in
    subst (λ n. LookedAt seen seat it.sig it.own (stated_type it.sig) n) c.of-terms.ensures.given
    (subst (λ (t : ElemType). LookedAt seen seat it.sig it.own t terms.given)
    c.of-terms.ensures.elem_type
    (subst (λ (o : Own). LookedAt seen seat it.sig o terms.elem_type terms.given)
    c.of-terms.ensures.own
    (subst (λ (s : Signature). LookedAt seen seat s terms.own.now terms.elem_type terms.given)
    c.of-terms.ensures.sig c.in-Ok.ensures.looked)))

pub enter-requires-clause-word : goal.enter-requires-clause-word
enter-requires-clause-word c =
    let wall = c.args.place.now.policy.now in
    let entries = c.args.place.now.book.now.list in
    let past = posts_to entries c.args.place.now.at in
    let posting = c.args.posting.now in
    let at : c.in-Ok.seat.process ≡ posting.process =
    c.in-Ok.ensures.process ∙ c.number.ensures.value in
    word_is wall (view_of c.args.post_state.now) past c.requires.stands
    c.in-Ok.seat c.in_ok-stated.stated posting.stated.now c.in_ok-stated.ensures.made
    (subst (λ (x : Post). IsCounted wall x past)
    (λ i. post_of (sym at i) (sym c.in-Ok.ensures.comm i) posting.stated.now)
    (counts_at wall entries c.args.place.now.at (post_in posting) c.requires.place.sound
    c.requires.here))

pub enter-requires-clause-few : goal.enter-requires-clause-few
enter-requires-clause-few c =
    let entries = c.args.place.now.book.now.list in
    let n = c.args.place.now.at in
    let terms = c.of-terms.result in
    few_is c.args.place.now.policy.now (view_of c.args.post_state.now) (posts_to entries n)
    c.requires.stands c.in-Ok.seat terms.sig.now terms.own.now terms.elem_type terms.given
    c.in-Ok.ensures.looked (few_posts entries n c.requires.place.few)

pub returns-in-Ok-enter : goal.returns-in-Ok-enter
returns-in-Ok-enter c =
    let wall = c.args.place.now.policy.now in
    let entries = c.args.place.now.book.now.list in
    let n = c.args.place.now.at in
    let posting = c.args.posting.now in
    let at : c.in-Ok.seat.process ≡ posting.process =
    c.in-Ok.ensures.process ∙ c.number.ensures.value in
    let same : post_of c.in-Ok.seat.process c.in-Ok.seat.meeting.comm c.in_ok-stated.stated
    ≡ post_in posting =
    λ i. post_of (at i) (c.in-Ok.ensures.comm i) (c.in_ok-stated.ensures.made i) in
    let now = entered_is wall (post_in posting)
    (post_of c.in-Ok.seat.process c.in-Ok.seat.meeting.comm c.in_ok-stated.stated)
    (posts_to entries n) c.enter.new.self c.in-Ok-enter.entered same
    (c.in-Ok-enter.ensures.entered (bare (posts_to entries n)) c.requires.stands) in
    record {
      stands = stands_posted wall entries n (post_in posting) c.enter.new.self c.requires.here
          now.0;
      told = now.1;
    }
