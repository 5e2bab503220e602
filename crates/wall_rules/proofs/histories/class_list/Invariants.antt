use Rattle.std.proofs.Common.{◌≡◌, take}
use Rattle.wall_rules.proofs.histories.class_list.Given as goal

abbrev pub invariant-loop-number : goal.invariant-loop-number
invariant-loop-number l = l.classes.items ≡ take l.number l.policy.classes
