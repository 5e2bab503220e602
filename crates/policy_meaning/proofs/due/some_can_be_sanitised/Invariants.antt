use Rattle.std.proofs.Common.{ℕ, ◌<◌}
use Rattle.wall_labels.specs.declared.op.Op.{Op}
use Rattle.wall_labels.specs.Ops.{op_number}
use Rattle.policy_meaning.specs.Warnings.{CanBeSanitised}
use Rattle.policy_meaning.proofs.due.some_can_be_sanitised.Given as goal

abbrev pub invariant-loop-op : goal.invariant-loop-op
invariant-loop-op l =
    (op : Op) → op_number op < l.op-index → ¬ (CanBeSanitised l.policy op)
