use Rattle.std.proofs.Common.{rules, ◌≡◌, ◌++◌, Bool, ap, ◌∙◌, length}
use Rattle.coll_values.specs.Values.{value}
use Rattle.run_model.specs.declared.reply.Reply.TheVariants.{Delivered}
use Rattle.hall_script.specs.Replies.{reply_line}
use Rattle.hall_script.specs.Telling.{delivery_if}
use Rattle.hall_script.proofs.TellingLemmas.{right_by_line, behind}
use Rattle.hall_script.proofs.teller.tell_first.Goals as goal

pub returns-clause-right : goal.returns-clause-right
returns-clause-right c = λ wall past right at.
    let before = c.args.text.now.items in
    let policy = c.args.policy.now in
    let full = c.args.full.now in
    let rank = c.args.rank in
    let it = c.args.it in
    let line = reply_line policy (Delivered (value full rank)) in
    let start : c.len-len.result ≡ length before = search rules in
    c.keep_for.ensures wall past right (right_by_line policy wall past it.comm it.k full rank _
    c.requires.alike at (behind before line c.deref.result.now c.len-len.result start
    (c.deref.ensures.value ∙ (c.in_ok-done.ensures.ok
    ∙ ap (λ (done : Bool). before ++ reply_line policy (delivery_if done full rank))
    c.if-not-done.false))))
