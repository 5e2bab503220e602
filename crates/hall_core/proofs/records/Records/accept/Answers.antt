use Rattle.std.proofs.Common.{◌≡◌, ◌≤◌, not, length}
use Rattle.std.proofs.Common.{refl, sym, ap, ◌∙◌, subst, arith, Result, Ok, Err, IsOk, IsErr, OnOk, OnErr}
use Rattle.std.proofs.lemmas.Grind.{common_steps}
use Rattle.mpi_elems.specs.Contents.{Contents}
use Rattle.coll_routes.specs.Faults.{stated_type}
use Rattle.wall_verdict.specs.Star.{star}
use Rattle.run_model.specs.Posts.{histories}
use Rattle.run_model.specs.Books.{IsCounted}
use Rattle.run_model.specs.Contributions.{Contribution, contribution}
use Rattle.run_state.specs.Views.{LookedAt, view_of as seen}
use Rattle.run_model.specs.Runs.{requests, statement, given_in, label_in, with_contribution}
use Rattle.run_model.specs.Replies.{posts_made}
use Rattle.run_model.proofs.RunModelLemmas.{taken, given_of}
use Rattle.hall_core.specs.Asking.{requests_of}
use Rattle.hall_core.specs.Halls.{HallView, StandsForEffects}
use Rattle.hall_core.specs.Invariant.{view_in}
use Rattle.hall_core.proofs.PostLemmas.{few_elements, looked_stated, has_form_of, due}
use Rattle.hall_core.proofs.PostLemmas.{post_counted, post_wanted}
use Rattle.hall_core.proofs.records.Records.accept.Goals as goal

-- by whether a result is one, with what is so then
by_result : {A E C K U : Type 0} (r : Result A E) → OnOk r K → OnErr r U →
    (IsOk r → K → C) → (IsErr r → U → C) → C
by_result (Ok a) k u ok err = ok refl k
by_result (Err e) k u ok err = err refl u

pub overflow_cast-given : goal.overflow_cast-given
overflow_cast-given c =
    let few = few_elements (seen c.args.self.now.post_state) c.args.seat
    c.args.posting.sig c.args.posting.own c.args.posting.elements.elem_type
    (given_in c.args.posting) c.requires.seat.looked in
    let low : c.given-given.result ≤ 65536 = subst (λ n. n ≤ 65536) (sym c.given-given.ensures) few
    in
    grind (arith, common_steps, low)

pub enter-entered-requires-clause-looked : goal.enter-entered-requires-clause-looked
enter-entered-requires-clause-looked c =
    subst (λ n. LookedAt (seen c.args.self.now.post_state) c.args.seat c.args.posting.sig
    c.args.posting.own (stated_type c.args.posting.sig) n) (sym c.given-given.ensures)
    (looked_stated (view_in c.args.self.now) c.requires.hall.effects c.requires.hall.stands
    c.args.seat c.args.posting
    (c.requires.none c.requires.hall.effects c.requires.hall.stands) c.requires.seat.comm
    c.requires.seat.looked)

pub enter-entered-requires-clause-form : goal.enter-entered-requires-clause-form
enter-entered-requires-clause-form c =
    let hall = c.requires.hall in
    let word : not c.passes-passed.result ≡ not (star
    (histories c.args.self.now.policy (posts_made hall.effects)) c.args.seat.process
    (label_in c.args.posting)) =
    ap not (c.passes-passed.ensures.posts c.args.self.now.policy hall.effects.contributions
    hall.stands.post_state
    ∙ (λ i. star (histories c.args.self.now.policy (posts_made hall.effects))
    c.args.seat.process (c.label-label.ensures i))) in
    (λ i. Rattle.std.proofs.Common.◌&&◌
    (Rattle.run_model.specs.EntryForms.is_formed c.args.posting.sig c.args.posting.own)
    (Rattle.run_model.specs.Books.is_labelled (record {
      sig = c.args.posting.sig;
      own = c.args.posting.own;
      given = c.given-given.ensures i;
      label = c.label-label.ensures i;
      barred = not c.passes-passed.result;
    })))
    ∙ has_form_of (view_in c.args.self.now) hall.effects hall.stands c.args.seat c.args.posting
    (not c.passes-passed.result) (c.requires.none hall.effects hall.stands) word
    c.requires.seat.looked

pub returns-clause-steps : goal.returns-clause-steps
returns-clause-steps c = λ m is stands.
    let wall = c.args.self.now.policy in
    let none = c.requires.none m stands in
    let word : c.passes-passed.result ≡ star (histories c.args.self.now.policy (posts_made m))
    c.args.seat.process (label_in c.args.posting) =
    c.passes-passed.ensures.posts c.args.self.now.policy m.contributions stands.post_state
    ∙ (λ i. star (histories c.args.self.now.policy (posts_made m)) c.args.seat.process
    (c.label-label.ensures i)) in
    let number : c.given_to-request.result ≡ length (requests c.args.seat.process (posts_made m)) =
    c.given_to-request.ensures
    ∙ ((λ i. length (requests_of (c.deref.ensures.value i) (sym c.requires.seat.process i)))
    ∙ stands.given c.args.seat.process) in
    let owed = due c.args.self.now.policy m c.args.seat.process c.args.posting
    c.passes-passed.result
    c.given_to-request.result none word number in
    let counts : IsCounted c.args.self.now.policy (record {
      process = c.args.seat.process;
      comm = c.args.posting.comm;
      stated = statement c.args.posting (not c.passes-passed.result);
    }) (posts_made m) =
    taken c.args.self.now.policy m c.args.seat.process c.args.posting (not c.passes-passed.result)
    none
    (ap not word) in
    let g : Contribution Contents = contribution c.args.seat.process c.args.seat.meeting.comm
    (record {
      sig = c.args.posting.sig;
      own = c.args.posting.own;
      given = c.given-given.result;
      label = c.label-label.result;
      barred = not c.passes-passed.result;
    })
    c.kept-part.result in
    let same : g ≡ given_of c.args.seat.process c.args.posting (not c.passes-passed.result) =
    (λ i. contribution c.args.seat.process (c.requires.seat.comm i)
    (record {
      sig = c.args.posting.sig;
      own = c.args.posting.own;
      given = c.given-given.ensures i;
      label = c.label-label.ensures i;
      barred = not c.passes-passed.result;
    }) (c.kept-part.ensures i)) in
    by_result c.enter-entered.result c.enter-entered.ensures.entered
    c.enter-entered.ensures.unchanged
    (λ t entered. post_counted c.args.self.now.policy (view_in c.enter-entered.new.self) m
    c.args.seat.process
    c.args.posting c.passes-passed.result c.given_to-request.result c.answer.result owed
    (c.answer.ensures.counted t)
    (subst (λ (h : Contribution Contents).
    StandsForEffects (view_in c.enter-entered.new.self) (with_contribution m h)) same
    (entered m stands (subst (λ (h : Contribution Contents).
    IsCounted c.args.self.now.policy h.post (posts_made m)) (sym same) counts))))
    (λ f unchanged. post_wanted c.args.self.now.policy (view_in c.enter-entered.new.self) m
    c.args.seat.process
    c.args.posting c.passes-passed.result c.given_to-request.result c.answer.result owed
    (c.answer.ensures.wanted f)
    (subst (λ (h : HallView). StandsForEffects h m) (sym unchanged) stands))
