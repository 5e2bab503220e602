use Rattle.std.proofs.Common.{◌+◌, ◌*◌}
use Rattle.wall_labels.specs.Ops.{op_number}
use Rattle.policy_meaning.specs.Warnings.{Warns, warning_place}
use Rattle.policy_meaning.specs.Listed.{AreListed}
use Rattle.policy_meaning.proofs.due.add_doubts.Given as goal

abbrev pub invariant-loop-doubt : goal.invariant-loop-doubt
invariant-loop-doubt l = AreListed (Warns l.policy) warning_place l.list.items
    (1 + (7 * op_number l.op + l.doubt-index))
