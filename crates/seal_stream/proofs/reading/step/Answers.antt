use Rattle.std.proofs.Common.{◌∷◌, ◌++◌, [], sym, ap, ◌∙◌, subst}
use Rattle.audit_book.specs.Audits.{book_fault}
use Rattle.audit_book.specs.Dues.{IsFaultWithin}
use Rattle.audit_book.proofs.AuditBookLemmas.{stops_behind}
use Rattle.seal_stream.proofs.reading.step.Goals as goal

pub returns-in-Err : goal.returns-in-Err
returns-in-Err c = λ entries seen number few.
    let not = c.in-Err.ensures.fault entries seen in (
      not.0,
      subst (IsFaultWithin c.args.policy.now (entries ++ c.args.entry.now ∷ []))
          (sym (c.at.ensures ∙ ap (λ n. book_fault n c.in-Err.fault) number))
          (stops_behind c.args.policy.now c.args.audit.now entries c.args.entry.now c.in-Err.fault
          few seen not.1),
    )
