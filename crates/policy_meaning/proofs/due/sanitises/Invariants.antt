use Rattle.std.proofs.Common.{◌≡◌, ℕ, ◌<◌, None}
use Rattle.wall_labels.specs.declared.op.Op.{Op}
use Rattle.wall_labels.specs.Ops.{op_number}
use Rattle.wall_policy.specs.Policy.{least_of}
use Rattle.policy_meaning.proofs.due.sanitises.Given as goal

abbrev pub invariant-loop-op : goal.invariant-loop-op
invariant-loop-op l = (op : Op) → op_number op < l.op-index → least_of l.policy op ≡ None
