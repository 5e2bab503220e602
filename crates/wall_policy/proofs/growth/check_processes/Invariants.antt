use Rattle.wall_policy.specs.GrowthFaults.{KeepsProcesses}
use Rattle.wall_policy.proofs.growth.check_processes.Given as goal

abbrev pub invariant-loop-number : goal.invariant-loop-number
invariant-loop-number l = KeepsProcesses l.old l.new l.number
