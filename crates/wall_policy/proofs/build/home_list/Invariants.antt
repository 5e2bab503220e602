use Rattle.std.proofs.Common.{◌≡◌, ◌++◌, map, drop}
use Rattle.wall_policy.specs.Meaning.{home_in}
use Rattle.wall_policy.proofs.build.home_list.Given as goal

abbrev pub invariant-loop-process : goal.invariant-loop-process
invariant-loop-process l =
    l.list.items ++ map (λ p. home_in l.datasets p.home) (drop l.process-index l.processes)
    ≡ map (λ p. home_in l.datasets p.home) l.processes
