use Rattle.std.proofs.Common.{ap, subst, sym}
use Rattle.std.specs.Option.{option_map}
use Rattle.run_model.specs.Known.{IsKnownEntry}
use Rattle.audit_book.specs.Checks.{entry_of}
use Rattle.audit_book.specs.Dues.{IsDueBehind}
use Rattle.book_seal.proofs.BookSealLemmas.{due_known}
use Rattle.seal_stream.proofs.SealLemmas.{known}
use Rattle.seal_stream.proofs.tail.due_behind.Goals as goal

pub entry_is_spelled-requires-clause-known : goal.entry_is_spelled-requires-clause-known
entry_is_spelled-requires-clause-known c =
    let wall = c.args.policy.now in
    let policy = c.processes.ensures.policy in
    let r = c.requires in
    let k = known wall policy c.args.reading.now r.0 r.1 r.2 r.3 in
    subst (IsKnownEntry wall) (sym c.entry-entry.ensures)
    (due_known wall k.entries (entry_of c.in-Some.due) policy k.known
    (subst (λ o. IsDueBehind wall k.entries o) (ap (option_map entry_of) c.in-Some.is)
    (c.due.ensures wall k.entries k.seen)))
