use Rattle.std.proofs.Common.{◌≡◌, ◌+◌, true, false, sym, ◌∙◌, subst, refl}
use Rattle.run_model.specs.Posts.{is_granted}
use Rattle.book_report.specs.Held.{posts_to}
use Rattle.book_report.specs.Places.{post_in}
use Rattle.book_report.specs.Walk.{IsTold}
use Rattle.book_report.proofs.WalkLemmas.{grant_at}
use Rattle.book_report.proofs.SanitisedLemmas.{those_next, unfilled_sanitises_none}
use Rattle.book_report.proofs.SanitisedLemmas.{ungranted_sanitises_none}
use Rattle.book_report.proofs.clean.add_sanitised.Goals as goal

pub returns-in-Waiting : goal.returns-in-Waiting
returns-in-Waiting c =
    let wall = c.args.place.now.policy.now in
    let entries = c.args.place.now.book.now.list in
    let n = c.args.place.now.at in
    let x = post_in c.args.posting.now in
    let none = subst (λ e. IsTold wall x (posts_to entries n) e) c.in-Waiting.is c.requires.told in
    those_next wall entries (n + 1) 0 c.args.those.now.items c.requires.those
    (λ d l i p is.
    absurd (unfilled_sanitises_none wall entries n x c.requires.here none d l i p is))

pub add_ranks-requires-clause-granted : goal.add_ranks-requires-clause-granted
add_ranks-requires-clause-granted c =
    let wall = c.args.place.now.policy.now in
    let entries = c.args.place.now.book.now.list in
    let n = c.args.place.now.at in
    let x = post_in c.args.posting.now in
    let o = c.in-Settled.outcome in
    let its = subst (λ e. IsTold wall x (posts_to entries n) e) c.in-Settled.is c.requires.told in
    let was_granted : is_granted o ≡ true = sym c.is_granted.ensures ∙ c.if-is_granted.true in
    record {
      place = c.requires.place;
      fit = its.3;
      grant = grant_at wall entries n x c.requires.here c.in-Settled.full.roll o its.1 its.2
          c.args.posting.now.comm c.in-Settled.k refl its.0 was_granted;
    }

pub returns-else-is_granted : goal.returns-else-is_granted
returns-else-is_granted c =
    let wall = c.args.place.now.policy.now in
    let entries = c.args.place.now.book.now.list in
    let n = c.args.place.now.at in
    let x = post_in c.args.posting.now in
    let its = subst (λ e. IsTold wall x (posts_to entries n) e) c.in-Settled.is c.requires.told in
    let not_granted : is_granted c.in-Settled.outcome ≡ false =
    sym c.is_granted.ensures ∙ c.if-is_granted.false in
    those_next wall entries (n + 1) 0 c.args.those.now.items c.requires.those
    (λ d l i p is. absurd (ungranted_sanitises_none wall entries n x c.requires.here
    c.in-Settled.outcome its.2 not_granted d l i p is))
