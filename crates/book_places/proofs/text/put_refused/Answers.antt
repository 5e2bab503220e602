use Rattle.std.proofs.Common.{ℕ, List, ◌++◌, ap, ◌∙◌, append_assoc, codes}
use Rattle.run_model.specs.declared.reply.Reply.TheVariants.{Refused}
use Rattle.hall_script.specs.Replies.{reply_line}
use Rattle.audit_book.proofs.AuditBookLemmas.{ok_more}
use Rattle.book_places.proofs.text.put_refused.Goals as goal

pub returns : goal.returns
returns c =
    let line = reply_line c.args.policy.now (Refused c.args.refusal) in
    ok_more c.write_reply.result _ _
    (λ done more. more ∙ ap (λ (t : List ℕ). t ++ line) c.in_ok-put.ensures.ok
    ∙ append_assoc c.args.text.now.items (codes "a post stands that does not count: ") line)
    c.write_reply.ensures.ok
