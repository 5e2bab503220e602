use Rattle.std.proofs.Common.{◌+◌, ◌≤◌, ◌∷◌, length}
use Rattle.audit_book.specs.Reading.{entries_in}
use Rattle.audit_book.proofs.ReadLemmas.{HasEntries}
use Rattle.audit_book.proofs.read.take_lines.Given as goal

abbrev pub invariant-loop-next : goal.invariant-loop-next
invariant-loop-next l = record {
  few : l.entries + length l.lines ≤ 9223372036854775808;
  read : HasEntries l.policy l.kept.memory l.kept.book.list l.entries l.line l.lines
      (entries_in l.policy 0 (l.first ∷ l.fn.lines));
}

abbrev pub decreases-loop-next : goal.decreases-loop-next
decreases-loop-next l = length l.lines
