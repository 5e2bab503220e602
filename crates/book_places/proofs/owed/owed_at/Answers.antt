use Rattle.std.proofs.Common.{subst}
use Rattle.audit_book.specs.Audits.{HasSeen}
use Rattle.audit_book.specs.Dues.{IsFaultWithin}
use Rattle.book_places.proofs.OwedLemmas.{none_within}
use Rattle.book_places.proofs.owed.owed_at.Goals as goal

pub owed_behind-requires-clause-seen : goal.owed_behind-requires-clause-seen
owed_behind-requires-clause-seen c =
    subst (HasSeen c.args.policy.now c.in-Ok.audit) c.in_ok-prefix.ensures c.in-Ok.ensures.seen

pub unreachable-requires : goal.unreachable-requires
unreachable-requires c =
    let bad = subst (IsFaultWithin c.args.policy.now c.in_ok-prefix.prefix.list)
    c.in-Err-BadEntry.field-0-is c.in-Err-BadEntry.ensures.fault in
    none_within c.args.policy.now c.args.book.now.list c.args.number c.requires
    c.in_ok-prefix.prefix.list c.in_ok-prefix.ensures c.in-Err-BadEntry.field-0-0 bad.0 bad.1
