use Rattle.std.proofs.Common.{◌≡◌, ℕ, ◌<◌, true}
use Rattle.wall_verdict.specs.Charges.{charged}
use Rattle.book_report.specs.Walk.{knows, HasAdded, AtRank}
use Rattle.book_report.proofs.grant.add_charges.Given as goal

abbrev pub invariant-loop-number : goal.invariant-loop-number
invariant-loop-number l = record {
  added : HasAdded l.instance.place l.fn.known l.known;
  there : (d : ℕ) → d < l.number →
      charged l.instance.place.policy.now l.instance.roll.now l.to d ≡ true →
      AtRank l.instance l.to (λ p. knows l.known p d ≡ true);
}
