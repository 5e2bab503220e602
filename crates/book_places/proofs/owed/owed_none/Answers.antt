use Rattle.std.proofs.Common.{◌≡◌, ap, sym, subst, ◌∙◌, Some, not}
use Rattle.std.specs.Result.{result_err}
use Rattle.run_model.specs.Books.{posts_in}
use Rattle.run_model.specs.EntryForms.{HasForm}
use Rattle.run_model.specs.Posts.{histories}
use Rattle.run_model.specs.Refusals.{fault, post_fault}
use Rattle.wall_verdict.specs.Star.{star}
use Rattle.audit_book.specs.Checks.{bare, post_of}
use Rattle.audit_book.proofs.AuditBookLemmas.{bare_posts}
use Rattle.book_places.specs.Owed.{before}
use Rattle.book_places.proofs.OwedLemmas.{within, has_refused_post, has_other_word}
use Rattle.book_places.proofs.owed.owed_none.Goals as goal

pub get-requires : goal.get-requires
get-requires c =
    within c.args.policy.now c.args.book.now.list c.args.number c.requires.bad c.requires.sound

pub returns-in-Err-clause-owed : goal.returns-in-Err-clause-owed
returns-in-Err-clause-owed c =
    let wall = c.args.policy.now in
    let entries = c.args.book.now.list in
    let p = c.in-Posted.process in
    let comm = c.in-Posted.comm in
    let s = c.in-Posted.stated in
    let past = posts_in (before c.args.number entries) in
    let terms = c.of.ensures in
    let told : result_err c.look.result ≡ post_fault wall past (post_of p comm s) =
    c.look.ensures.posts (bare past) c.requires.stands
    ∙ (λ i. fault wall (bare_posts past i) (c.number.ensures.value i) comm (terms.sig i)
    (terms.own i) (terms.elem_type i) (terms.given i)) in
    has_refused_post wall entries c.args.number c.requires.bad p comm s
    (c.get.ensures.entry ∙ ap (λ e. Some e) c.in-Posted.is) c.requires.sound c.in-Err.refusal
    (sym told ∙ ap result_err c.in-Err.is)

pub returns-in-Ok-clause-owed : goal.returns-in-Ok-clause-owed
returns-in-Ok-clause-owed c =
    let wall = c.args.policy.now in
    let entries = c.args.book.now.list in
    let p = c.in-Posted.process in
    let comm = c.in-Posted.comm in
    let s = c.in-Posted.stated in
    let past = posts_in (before c.args.number entries) in
    let terms = c.of.ensures in
    let told : result_err c.look.result ≡ post_fault wall past (post_of p comm s) =
    c.look.ensures.posts (bare past) c.requires.stands
    ∙ (λ i. fault wall (bare_posts past i) (c.number.ensures.value i) comm (terms.sig i)
    (terms.own i) (terms.elem_type i) (terms.given i)) in
    let by : c.in-Ok.seat.process ≡ p = c.in-Ok.ensures.process ∙ c.number.ensures.value in
    let passes : c.passes.result ≡ star (histories wall past) p s.label =
    c.passes.ensures.posts wall (bare past) c.requires.stands
    ∙ (λ i. star (histories wall (bare_posts past i)) (by i) s.label) in
    has_other_word wall entries c.args.number c.requires.bad p comm s
    (c.get.ensures.entry ∙ ap (λ e. Some e) c.in-Posted.is) c.requires.sound
    (not c.passes.result) (sym told ∙ ap result_err c.in-Ok.is)
    (subst HasForm c.in-Posted.is c.get.ensures.form) (ap not passes)
