use Rattle.std.proofs.Common.{◌≡◌}
use Rattle.wall_rules.specs.Histories.{has}
use Rattle.wall_verdict.specs.Inflows.{IsCollected}
use Rattle.wall_verdict.proofs.GrantLemmas.{under}
use Rattle.wall_verdict.proofs.grant.grant.Given as goal

abbrev pub invariant-loop-to : goal.invariant-loop-to
invariant-loop-to l = record {
  pairs : has l.histories ≡ under l.policy (has l.fn.histories) l.roll l.to;
  processes : l.histories.processes ≡ l.fn.histories.processes;
  classes : l.histories.classes ≡ l.fn.histories.classes;
  collected : IsCollected l.histories.classes l.roll l.collected;
}
