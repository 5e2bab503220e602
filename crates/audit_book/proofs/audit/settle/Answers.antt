use Rattle.std.proofs.Common.{sym, ◌∙◌}
use Rattle.std.proofs.lemmas.Bool.{false≢true}
use Rattle.audit_book.proofs.AuditLemmas.{other_stops, settles}
use Rattle.audit_book.proofs.audit.settle.Goals as goal

pub returns-then-not-is_entry-clause-fault : goal.returns-then-not-is_entry-clause-fault
returns-then-not-is_entry-clause-fault c = λ wall entries seen.
    other_stops wall c.args.audit.now entries seen c.args.due c.requires.due c.args.entry.now
    (λ same. false≢true (sym c.if-not-is_entry.true ∙ c.is_entry.ensures.1 same))

pub returns-clause-step : goal.returns-clause-step
returns-clause-step c = λ wall entries seen.
    settles wall c.args.audit.now entries seen c.args.due c.requires.due c.args.entry.now
    (c.is_entry.ensures.0 c.if-not-is_entry.false)
