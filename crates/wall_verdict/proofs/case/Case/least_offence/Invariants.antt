use Rattle.std.proofs.Common.{◌≡◌, None}
use Rattle.wall_rules.specs.Histories.{has}
use Rattle.wall_verdict.specs.Verdicts.{offends}
use Rattle.wall_verdict.specs.Inflows.{IsCollected}
use Rattle.wall_verdict.proofs.PairLemmas.{found_in}
use Rattle.wall_verdict.proofs.case.Case.least_offence.Given as goal

abbrev pub invariant-loop-to : goal.invariant-loop-to
invariant-loop-to l = record {
  none : found_in (offends l.self.policy.now (has l.self.histories.now) l.self.roll.now)
      l.self.roll.now.shape.size l.to ≡ None;
  collected : IsCollected l.self.histories.now.classes l.self.roll.now l.collected;
}
