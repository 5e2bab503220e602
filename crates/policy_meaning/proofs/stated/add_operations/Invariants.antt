use Rattle.std.proofs.Common.{◌+◌}
use Rattle.policy_meaning.specs.Facts.{IsFact, fact_place}
use Rattle.policy_meaning.specs.Listed.{AreListed}
use Rattle.policy_meaning.proofs.stated.add_operations.Given as goal

abbrev pub invariant-loop-op : goal.invariant-loop-op
invariant-loop-op l = AreListed (IsFact l.policy) fact_place l.list.items (66816 + l.op-index)
