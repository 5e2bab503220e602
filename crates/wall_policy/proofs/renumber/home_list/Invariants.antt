use Rattle.std.proofs.Common.{◌≡◌, ◌++◌, map, drop, slice_get}
use Rattle.std.specs.Prelude.{option_and_then}
use Rattle.wall_policy.specs.Growth.{place_if_any}
use Rattle.wall_policy.proofs.renumber.home_list.Given as goal

abbrev pub invariant-loop-number : goal.invariant-loop-number
invariant-loop-number l =
    l.list.items
    ++ map (λ home. place_if_any l.datasets
    (option_and_then (λ d. slice_get l.policy.dataset_names d) home))
    (drop l.number l.policy.homes)
    ≡ map (λ home. place_if_any l.datasets
    (option_and_then (λ d. slice_get l.policy.dataset_names d) home)) l.policy.homes
