use Rattle.std.proofs.Common.{◌∷◌, [], subst}
use Rattle.audit_book.proofs.AuditBookLemmas.{within_more}
use Rattle.book_stream.specs.Readings.{IsJudged}
use Rattle.book_stream.proofs.reading.judge.Goals as goal

pub returns-in-Some-clause-judged : goal.returns-in-Some-clause-judged
returns-in-Some-clause-judged c = λ entries said number few judged same.
    within_more c.args.policy.now entries (said ∷ []) c.in-Some.fault
    (subst (λ f. IsJudged c.args.policy.now c.args.reading.now.audit f entries) c.in-Some.is judged)
