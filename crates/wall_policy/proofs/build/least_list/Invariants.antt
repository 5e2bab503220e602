use Rattle.std.proofs.Common.{◌≡◌, ◌++◌, drop}
use Rattle.wall_policy.specs.Meaning.{leasts_in}
use Rattle.wall_policy.proofs.build.least_list.Given as goal

abbrev pub invariant-loop-rule : goal.invariant-loop-rule
invariant-loop-rule l = l.list.items ++ leasts_in (drop l.rule-index l.rules) ≡ leasts_in l.rules
