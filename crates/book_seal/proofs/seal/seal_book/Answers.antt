use Rattle.std.proofs.Common.{rules}
use Rattle.std.specs.Prelude.{IfErr}
use Rattle.audit_book.specs.Text.{book_text}
use Rattle.book_seal.specs.SealSteps.{IsUnread}
use Rattle.book_seal.proofs.CutLemmas.{seals_keep_runs}
use Rattle.book_seal.proofs.ExactLemmas.{starts_unsoundly}
use Rattle.book_seal.proofs.SealLemmas.{seal_is, unread_is, uncompleted_is}
use Rattle.audit_book.proofs.AuditBookLemmas.{err_more}
use Rattle.audit_book.proofs.AuditBookLemmas.{ok_more}
use Rattle.book_seal.proofs.seal.seal_book.Goals as goal

pub returns-in_err-book-clause-exact : goal.returns-in_err-book-clause-exact
returns-in_err-book-clause-exact c =
    let unread : IfErr c.from_residual.result (IsUnread c.args.policy.now c.args.text.now) =
    search rules in
    err_more c.from_residual.result _ _ (λ fault h. starts_unsoundly c.args.policy.now
    c.args.text.now fault (unread_is c.args.policy.now c.args.text.now fault h)) unread

pub returns-clause-sealed : goal.returns-clause-sealed
returns-clause-sealed c = ok_more c.complete.result _ _ (λ sealed done.
    seal_is c.args.policy.now c.processes.ensures.policy c.args.text.now c.in_ok-book.book.list
    sealed.list c.in_ok-book.is_ended c.in_ok-book.ensures.begun done)
    c.complete.ensures.completed

pub returns-clause-keeps : goal.returns-clause-keeps
returns-clause-keeps c = ok_more c.complete.result _ _ (λ sealed done.
    seals_keep_runs c.args.policy.now c.processes.ensures.policy c.args.text.now
    (book_text c.args.policy.now sealed.list)
    (seal_is c.args.policy.now c.processes.ensures.policy c.args.text.now c.in_ok-book.book.list
    sealed.list c.in_ok-book.is_ended c.in_ok-book.ensures.begun done))
    c.complete.ensures.completed

pub returns-clause-exact : goal.returns-clause-exact
returns-clause-exact c = err_more c.complete.result _ _ (λ fault h.
    starts_unsoundly c.args.policy.now c.args.text.now fault
    (uncompleted_is c.args.policy.now c.args.text.now c.in_ok-book.book.list
    c.in_ok-book.is_ended fault c.in_ok-book.ensures.begun h))
    c.complete.ensures.fault
