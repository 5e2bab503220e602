use Rattle.audit_book.proofs.AuditLemmas.{settled_stops}
use Rattle.audit_book.proofs.audit.Audit.step.Goals as goal

pub returns-in-Settled-clause-fault : goal.returns-in-Settled-clause-fault
returns-in-Settled-clause-fault c = λ entries seen.
    settled_stops c.args.policy.now c.args.self.now entries seen c.in_default.is c.args.entry.now
    c.in-Settled.comm c.in-Settled.k c.in-Settled.outcome c.in-Settled.is
