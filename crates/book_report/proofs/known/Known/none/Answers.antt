use Rattle.book_report.proofs.KnownLemmas.{known_none}
use Rattle.book_report.proofs.known.Known.none.Goals as goal

pub returns-clause-known : goal.returns-clause-known
returns-clause-known c = λ wall entries.
    known_none wall entries (record { rows = c.new.result; sets = c.in_ok-sets.sets })
    c.new.ensures.items c.in_ok-sets.ensures.none
