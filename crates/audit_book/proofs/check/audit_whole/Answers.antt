use Rattle.std.proofs.Common.{◌+◌, sym, ap, subst}
use Rattle.std.specs.Option.{option_map}
use Rattle.run_model.specs.Books.{IsFirstBad}
use Rattle.audit_book.specs.Checks.{entry_of}
use Rattle.audit_book.proofs.AuditLemmas.{none_missing, one_missing}
use Rattle.audit_book.proofs.check.audit_whole.Goals as goal

pub returns-in-None-clause-whole : goal.returns-in-None-clause-whole
returns-in-None-clause-whole c = (
  c.in_ok-audit.ensures.seen,
  none_missing c.args.policy.now c.args.book.now.list _ (ap (option_map entry_of) c.in-None.is)
      (c.due.ensures c.args.policy.now c.args.book.now.list c.in_ok-audit.ensures.seen),
)

pub returns-in-Some-clause-fault : goal.returns-in-Some-clause-fault
returns-in-Some-clause-fault c =
    subst (IsFirstBad c.args.policy.now c.args.book.now.list)
    (ap (λ n. n + 1) (sym c.len.ensures.value))
    (one_missing c.args.policy.now c.args.book.now.list _ (entry_of c.in-Some.field-0)
    (ap (option_map entry_of) c.in-Some.is)
    (c.due.ensures c.args.policy.now c.args.book.now.list c.in_ok-audit.ensures.seen))
