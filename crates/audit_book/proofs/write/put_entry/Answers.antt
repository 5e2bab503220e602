use Rattle.std.proofs.Common.{◌++◌, codes, ap, ◌∙◌}
use Rattle.std.specs.Fmt.{decimal}
use Rattle.audit_book.proofs.TextLemmas.{post_put, verdict_put}
use Rattle.audit_book.proofs.write.put_entry.Goals as goal

pub returns-in_ok-put_given-in-Posted : goal.returns-in_ok-put_given-in-Posted
returns-in_ok-put_given-in-Posted c =
    let old = c.args.text.now.items in
    let p = c.from-process.result in
    rw c.in-Posted.is (post_put c.args.policy.now p c.in-Posted.process c.in-Posted.comm
    c.in-Posted.stated old c.put_numbers.new.text.items c.put.new.text.items
    c.write_statement.new.text.items c.put_given.new.text.items
    (c.in_ok-put_numbers-in-Posted.ensures
    ∙ ap (λ m. old ++ codes "post " ++ decimal p ++ codes " " ++ decimal m) c.from.ensures)
    (c.from-process.ensures ∙ c.number.ensures.value) c.in_ok-put-in-Posted.ensures.ok
    c.in_ok-write_statement-in-Posted.ensures.ok c.in_ok-put_given-in-Posted.ensures)

pub returns-in_ok-put_outcome-in-Settled : goal.returns-in_ok-put_outcome-in-Settled
returns-in_ok-put_outcome-in-Settled c =
    let old = c.args.text.now.items in
    rw c.in-Settled.is (verdict_put c.args.policy.now c.in-Settled.comm c.in-Settled.k
    c.in-Settled.outcome old c.put_numbers-in-Settled.new.text.items c.put-in-Settled.new.text.items
    c.put_outcome.new.text.items
    (c.in_ok-put_numbers-in-Settled.ensures
    ∙ ap (λ m. old ++ codes "verdict " ++ decimal m ++ codes " " ++ decimal c.in-Settled.k)
    c.from-in-Settled.ensures)
    c.in_ok-put-in-Settled.ensures.ok c.in_ok-put_outcome-in-Settled.ensures)
