use Rattle.std.proofs.Common.{◌≡◌, ◌++◌, drop}
use Rattle.wall_policy.specs.Meaning.{class_numbers}
use Rattle.wall_policy.proofs.build.class_list.Given as goal

abbrev pub invariant-loop-number : goal.invariant-loop-number
invariant-loop-number l =
    l.list.items ++ class_numbers l.number (drop l.number l.classes) ≡ class_numbers 0 l.classes
