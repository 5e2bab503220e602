use Rattle.wall_policy.specs.GrowthFaults.{KeepsDatasets}
use Rattle.wall_policy.proofs.growth.check_datasets.Given as goal

abbrev pub invariant-loop-number : goal.invariant-loop-number
invariant-loop-number l = KeepsDatasets l.old l.new l.number
