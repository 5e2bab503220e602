use Rattle.audit_book.proofs.AuditLemmas.{seen_due}
use Rattle.audit_book.proofs.audit.Audit.due.Goals as goal

pub returns : goal.returns
returns c = λ wall entries seen. seen_due wall c.args.self.now entries seen
