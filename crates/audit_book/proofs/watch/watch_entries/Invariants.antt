use Rattle.std.proofs.Common.{take}
use Rattle.audit_book.specs.Audits.{HasSeen}
use Rattle.audit_book.proofs.watch.watch_entries.Given as goal

-- it has gone through the entries before this one, which are followed
abbrev pub invariant-loop-at : goal.invariant-loop-at
invariant-loop-at g l = record {
  seen : HasSeen l.policy l.audit (take l.at l.book.list);
  follows : g.W.Watch.follows l.policy (take l.at l.book.list) l.watch;
}
