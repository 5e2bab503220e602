use Rattle.std.proofs.Common.{◌+◌, ◌*◌}
use Rattle.policy_meaning.specs.Warnings.{Warns, warning_place}
use Rattle.policy_meaning.specs.Listed.{AreListed}
use Rattle.policy_meaning.proofs.due.add_operations.Given as goal

abbrev pub invariant-loop-op : goal.invariant-loop-op
invariant-loop-op l = AreListed (Warns l.policy) warning_place l.list.items (1 + 7 * l.op-index)
