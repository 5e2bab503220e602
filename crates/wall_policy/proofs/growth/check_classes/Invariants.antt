use Rattle.wall_policy.specs.GrowthFaults.{KeepsClasses}
use Rattle.wall_policy.proofs.growth.check_classes.Given as goal

abbrev pub invariant-loop-number : goal.invariant-loop-number
invariant-loop-number l = KeepsClasses l.old l.new l.number
