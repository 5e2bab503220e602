use Rattle.std.proofs.Common.{ℕ, ◌≤◌, ◌<◌}
use Rattle.book_chain.specs.Chain.{Fits}
use Rattle.book_chain.proofs.prefix.prefix_of.Given as goal

abbrev pub invariant-loop-number : goal.invariant-loop-number
invariant-loop-number l = record {
  from : l.least ≤ l.number;
  none : (m : ℕ) → l.least ≤ m → m < l.number → ¬ (Fits l.policy l.book.list m);
}
