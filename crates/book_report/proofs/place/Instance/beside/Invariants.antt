use Rattle.std.proofs.Common.{ℕ, ◌<◌}
use Rattle.book_report.specs.Reasons.{GivesRival}
use Rattle.book_report.proofs.place.Instance.beside.Given as goal

abbrev pub invariant-loop-rank : goal.invariant-loop-rank
invariant-loop-rank l = (m : ℕ) → m < l.rank →
    GivesRival l.self.place.policy.now l.self.roll.now m l.to l.dataset → ⊥
