use Rattle.std.proofs.Common.{◌≡◌, ◌∙◌, not, sym, ap, subst, rules}
use Rattle.std.specs.Result.{result_err}
use Rattle.coll_routes.specs.declared.statement.Stated.{Stated}
use Rattle.run_model.specs.Posts.{Post}
use Rattle.run_model.specs.Refusals.{post_fault}
use Rattle.audit_book.specs.Checks.{post_of, HasEntered, HasCounted}
use Rattle.audit_book.proofs.count.count.Goals as goal

pub returns-in-Ok-enter-clause-counted : goal.returns-in-Ok-enter-clause-counted
returns-in-Ok-enter-clause-counted c =
    let wall = c.args.policy.now in
    let seat = c.in-Ok.seat in
    let it = c.args.posting.now.stated.now in
    let same : post_of seat.process seat.meeting.comm it
    ≡ post_of c.args.posting.now.process c.args.posting.now.comm it =
    λ i. post_of (c.in-Ok.ensures.process i) (c.in-Ok.ensures.comm i) it in
    let apart : it.barred ≡ not c.passes-may_pass.result = search rules in
    subst (λ (x : Post).
    HasCounted wall c.args.post_state.now c.enter.new.post_state x c.in-Ok-enter.entered) same
    (λ past stands. let entered = subst (λ (s : Stated). HasEntered wall c.args.post_state.now
    c.enter.new.post_state (post_of seat.process seat.meeting.comm s) c.in-Ok-enter.entered)
    c.in-Ok-copy.ensures.made c.in-Ok-enter.ensures.entered past stands in (
      record {
        accepted = (λ i. post_fault wall past (same i))
            ∙ (sym (c.look.ensures.fault past stands) ∙ ap result_err c.in-Ok.is);
        label = c.requires.label;
        word = apart ∙ ap not (c.passes-may_pass.ensures wall past stands);
      },
      entered.0,
      entered.1,
    ))
