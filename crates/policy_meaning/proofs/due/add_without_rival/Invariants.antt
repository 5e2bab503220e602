use Rattle.std.proofs.Common.{◌+◌}
use Rattle.policy_meaning.specs.Warnings.{Warns, warning_place}
use Rattle.policy_meaning.specs.Listed.{AreListed}
use Rattle.policy_meaning.proofs.due.add_without_rival.Given as goal

abbrev pub invariant-loop-number : goal.invariant-loop-number
invariant-loop-number l =
    AreListed (Warns l.policy) warning_place l.list.items (85 + l.number)
