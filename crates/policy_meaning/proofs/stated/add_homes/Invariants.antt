use Rattle.std.proofs.Common.{◌+◌}
use Rattle.policy_meaning.specs.Facts.{IsFact, fact_place}
use Rattle.policy_meaning.specs.Listed.{AreListed}
use Rattle.policy_meaning.proofs.stated.add_homes.Given as goal

abbrev pub invariant-loop-number : goal.invariant-loop-number
invariant-loop-number l = AreListed (IsFact l.policy) fact_place l.list.items (1024 + l.number)
