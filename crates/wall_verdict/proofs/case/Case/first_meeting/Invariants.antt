use Rattle.std.proofs.Common.{◌≡◌, find, None}
use Rattle.mpi_cart.specs.Grids.{below}
use Rattle.wall_rules.specs.Histories.{has}
use Rattle.wall_rules.specs.Rules.{HoldsNoRivals, joined}
use Rattle.wall_verdict.specs.Charges.{contribution}
use Rattle.wall_verdict.specs.Verdicts.{meets}
use Rattle.wall_verdict.proofs.ChargeLemmas.{AreBrought}
use Rattle.wall_verdict.proofs.case.Case.first_meeting.Given as goal

abbrev pub invariant-loop-from : goal.invariant-loop-from
invariant-loop-from l = record {
  brought : AreBrought (λ i. contribution l.self.roll.now i l.to) l.from l.held;
  apart : HoldsNoRivals l.self.histories.now.classes
      (joined (has l.self.histories.now l.receiver) l.held);
  none : find (meets l.self.histories.now.classes (has l.self.histories.now) l.self.roll.now l.to)
      (below l.from) ≡ None;
}
