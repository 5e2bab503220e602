use Rattle.std.proofs.Common.{◌≡◌, ◌++◌, map, drop}
use Rattle.wall_policy.specs.Growth.{class_name_of, class_number}
use Rattle.wall_policy.proofs.renumber.class_list.Given as goal

abbrev pub invariant-loop-number : goal.invariant-loop-number
invariant-loop-number l =
    l.list.items
    ++ map (λ name. class_number l.classes (class_name_of l.policy name)) (drop l.number l.datasets)
    ≡ map (λ name. class_number l.classes (class_name_of l.policy name)) l.datasets
