use Rattle.book_places.proofs.PlaceLemmas.{found_is}
use Rattle.audit_book.proofs.AuditBookLemmas.{ok_more}
use Rattle.book_places.proofs.place.found_in.Goals as goal

pub returns-in-Ok-clause-found : goal.returns-in-Ok-clause-found
returns-in-Ok-clause-found c = ok_more c.found_of-found.result _ _
    (found_is c.args.policy.now c.args.text.now c.in-Ok.book.list c.in-Ok.ensures.answer)
    c.found_of-found.ensures.found

pub returns-in-Ok-clause-known : goal.returns-in-Ok-clause-known
returns-in-Ok-clause-known c = ok_more c.found_of-found.result _ _
    (λ found known. known c.in-Ok.ensures.known) c.found_of-found.ensures.known
