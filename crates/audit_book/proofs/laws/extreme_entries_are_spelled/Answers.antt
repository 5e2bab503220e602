use Rattle.audit_book.proofs.SpelledRowProofs.{posts, verdicts}
use Rattle.audit_book.proofs.laws.extreme_entries_are_spelled.Goals as goal

pub returns-clause-posts : goal.returns-clause-posts
returns-clause-posts c = posts

pub returns-clause-verdicts : goal.returns-clause-verdicts
returns-clause-verdicts c = verdicts
