use Rattle.std.proofs.Common.{ℕ, ◌<◌}
use Rattle.book_report.specs.Walk.{GivesTo}
use Rattle.book_report.proofs.grant.giver.Given as goal

abbrev pub invariant-loop-from : goal.invariant-loop-from
invariant-loop-from l = (m : ℕ) → m < l.from → GivesTo l.roll m l.to l.dataset → ⊥
