use Rattle.std.proofs.Common.{◌+◌}
use Rattle.policy_meaning.specs.Warnings.{Warns, warning_place}
use Rattle.policy_meaning.specs.Listed.{AreListed}
use Rattle.policy_meaning.proofs.due.add_nobodys_homes.Given as goal

abbrev pub invariant-loop-number : goal.invariant-loop-number
invariant-loop-number l =
    AreListed (Warns l.policy) warning_place l.list.items (1109 + l.number)
