use Rattle.std.proofs.Common.{◌≡◌, true, false, sym, ◌∙◌, subst, refl}
use Rattle.run_model.specs.Posts.{is_granted}
use Rattle.book_report.specs.Held.{posts_to}
use Rattle.book_report.specs.Places.{post_in}
use Rattle.book_report.specs.Walk.{IsTold}
use Rattle.book_report.proofs.KnownLemmas.{ok_both}
use Rattle.book_report.proofs.WalkLemmas.{covers_unfilled, covers_ungranted, covers_granted}
use Rattle.book_report.proofs.WalkLemmas.{grant_new, grant_at}
use Rattle.book_report.proofs.walk.add_filled.Goals as goal

pub returns-in-Waiting : goal.returns-in-Waiting
returns-in-Waiting c =
    let wall = c.args.place.now.policy.now in
    let entries = c.args.place.now.book.now.list in
    let n = c.args.place.now.at in
    let x = post_in c.args.posting.now in
    record {
      rows = c.requires.known;
      covers = covers_unfilled wall entries n x c.requires.here c.args.known.now
          (subst (λ e. IsTold wall x (posts_to entries n) e) c.in-Waiting.is c.requires.told)
          c.requires.covers;
    }

pub add_grant-requires-clause-granted : goal.add_grant-requires-clause-granted
add_grant-requires-clause-granted c =
    let wall = c.args.place.now.policy.now in
    let entries = c.args.place.now.book.now.list in
    let n = c.args.place.now.at in
    let x = post_in c.args.posting.now in
    let o = c.in-Settled.outcome in
    let its = subst (λ e. IsTold wall x (posts_to entries n) e) c.in-Settled.is c.requires.told in
    let was_granted : is_granted o ≡ true = sym c.is_granted.ensures ∙ c.if-is_granted.true in
    record {
      place = c.requires.place;
      fit = its.3;
      grant = grant_at wall entries n x c.requires.here c.in-Settled.full.roll o its.1 its.2
          c.args.posting.now.comm c.in-Settled.k refl its.0 was_granted;
    }

pub add_grant-requires-clause-new : goal.add_grant-requires-clause-new
add_grant-requires-clause-new c = λ p d charge fresh.
    let wall = c.args.place.now.policy.now in
    let entries = c.args.place.now.book.now.list in
    let n = c.args.place.now.at in
    let x = post_in c.args.posting.now in
    let o = c.in-Settled.outcome in
    let its = subst (λ e. IsTold wall x (posts_to entries n) e) c.in-Settled.is c.requires.told in
    let was_granted : is_granted o ≡ true = sym c.is_granted.ensures ∙ c.if-is_granted.true in
    grant_new wall entries n x c.requires.here c.in-Settled.full.roll o its.1 its.2
    c.args.known.now was_granted c.requires.covers p d charge fresh

pub returns-then-is_granted : goal.returns-then-is_granted
returns-then-is_granted c = ok_both c.add_grant.result _ _ _
    (λ added there.
    let wall = c.args.place.now.policy.now in
    let entries = c.args.place.now.book.now.list in
    let n = c.args.place.now.at in
    let x = post_in c.args.posting.now in
    let its = subst (λ e. IsTold wall x (posts_to entries n) e) c.in-Settled.is c.requires.told in
    record {
      rows = added.known;
      covers = covers_granted wall entries n x c.requires.here c.in-Settled.full.roll
          c.in-Settled.outcome its.1 its.2 c.args.known.now c.add_grant.new.known
          c.requires.covers added.grows there;
    })
    c.add_grant.ensures.added c.add_grant.ensures.there

pub returns-else-is_granted : goal.returns-else-is_granted
returns-else-is_granted c =
    let wall = c.args.place.now.policy.now in
    let entries = c.args.place.now.book.now.list in
    let n = c.args.place.now.at in
    let x = post_in c.args.posting.now in
    let its = subst (λ e. IsTold wall x (posts_to entries n) e) c.in-Settled.is c.requires.told in
    let not_granted : is_granted c.in-Settled.outcome ≡ false =
    sym c.is_granted.ensures ∙ c.if-is_granted.false in
    record {
      rows = c.requires.known;
      covers = covers_ungranted wall entries n x c.requires.here c.in-Settled.full.roll
          c.in-Settled.outcome its.1 its.2 c.args.known.now not_granted c.requires.covers;
    }
