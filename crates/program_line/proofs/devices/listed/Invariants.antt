use Rattle.std.proofs.Common.{map, take}
use Rattle.program_line.specs.Kinds.{listed_kind}
use Rattle.program_line.specs.Performing.{AreListed}
use Rattle.program_line.proofs.devices.listed.Given as goal

abbrev pub invariant-loop-path : goal.invariant-loop-path
invariant-loop-path g l =
    AreListed listed_kind (map (λ p. p.now) (take l.path-index l.paths)) l.books.items
