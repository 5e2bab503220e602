use Rattle.std.proofs.Common.{◌≤◌, length, drop}
use Rattle.audit_book.specs.Faults.{IsLine}
use Rattle.book_seal.proofs.unfinished.finished.Given as goal

-- no line feed stands behind
abbrev pub invariant-loop-end : goal.invariant-loop-end
invariant-loop-end l = record {
  within : l.end ≤ length l.text;
  behind : IsLine (drop l.end l.text);
}

abbrev pub decreases-loop-end : goal.decreases-loop-end
decreases-loop-end l = l.end
