use Rattle.std.proofs.Common.{ℕ, List, ◌++◌, ap, ◌∙◌}
use Rattle.audit_book.specs.Text.{line_of, end_words}
use Rattle.audit_book.proofs.AuditBookLemmas.{ok_more}
use Rattle.seal_stream.proofs.SealLemmas.{completes_header, completes_entry, completes_ended}
use Rattle.seal_stream.proofs.tail.put_tail.Goals as goal

pub returns-in_ok-put_end-in-Header : goal.returns-in_ok-put_end-in-Header
returns-in_ok-put_end-in-Header c = λ lines kept are h.
    completes_header c.args.policy.now c.processes.ensures.policy c.args.reading.now lines kept are h
    c.requires.sound c.in-Header.is c.args.text.now.items c.put_end.new.text.items
    (c.in_ok-put_end-in-Header.ensures
    ∙ ap (λ (t : List ℕ). t ++ line_of (end_words 0)) c.in_ok-put_header-in-Header.ensures)

pub returns-in-Entry : goal.returns-in-Entry
returns-in-Entry c = ok_more c.put_due.result _ _ (λ n put lines kept are h.
    completes_entry c.args.policy.now c.processes.ensures.policy c.args.reading.now lines kept are h
    c.requires.sound c.in-Entry.is c.due_behind-due.result c.due_behind-due.ensures.due
    c.due_behind-due.ensures.spelled c.args.text.now.items c.put_due.new.text.items n put.0 put.1)
    c.put_due.ensures

pub returns-in-Ended : goal.returns-in-Ended
returns-in-Ended c = ok_more c.put_due-in-Ended.result _ _ (λ n put lines kept are h.
    completes_ended c.args.policy.now c.processes.ensures.policy c.args.reading.now lines kept are h
    c.requires.sound c.in-Ended.is c.args.text.now.items c.put_due-in-Ended.new.text.items n put.0 put.1)
    c.put_due-in-Ended.ensures
