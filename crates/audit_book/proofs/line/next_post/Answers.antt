use Rattle.audit_book.proofs.FormLemmas.{post_form}
use Rattle.audit_book.proofs.line.next_post.Goals as goal

pub returns-clause-form : goal.returns-clause-form
returns-clause-form c =
    post_form c.in_ok-process.process c.in_ok-comm.comm c.in_ok-sig.sig c.in_ok-sig.own
    c.in_ok-given.given.given c.in_ok-given.given.label c.in_ok-given.given.barred
    c.in_ok-sig.ensures.form c.in_ok-given.ensures.labelled
