use Rattle.std.proofs.Common.{◌≡◌}
use Rattle.coll_trials.proofs.verdicts.settle_often.Given as goal

abbrev pub invariant-loop : goal.invariant-loop
invariant-loop g l = l.histories.classes ≡ l.policy.classes
