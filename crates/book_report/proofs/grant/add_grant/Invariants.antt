use Rattle.std.proofs.Common.{◌≡◌, ℕ, ◌<◌, true}
use Rattle.book_report.specs.Walk.{knows, HasAdded, AtRank, OfCharges}
use Rattle.book_report.proofs.grant.add_grant.Given as goal

abbrev pub invariant-loop-to : goal.invariant-loop-to
invariant-loop-to l = record {
  added : HasAdded l.instance.place l.fn.known l.known;
  there : (j : ℕ) → j < l.to →
      OfCharges l.instance j (λ d. AtRank l.instance j (λ p. knows l.known p d ≡ true));
}
