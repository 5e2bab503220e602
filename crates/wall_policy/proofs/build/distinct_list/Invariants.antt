use Rattle.std.proofs.Common.{◌≡◌, ◌++◌, drop}
use Rattle.wall_policy.specs.Meaning.{distincts_in}
use Rattle.wall_policy.proofs.build.distinct_list.Given as goal

abbrev pub invariant-loop-rule : goal.invariant-loop-rule
invariant-loop-rule l =
    l.list.items ++ distincts_in (drop l.rule-index l.rules) ≡ distincts_in l.rules
