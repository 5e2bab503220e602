use Rattle.std.proofs.Common.{◌≡◌, replicate}
use Rattle.std.specs.FinSet.{empty}
use Rattle.book_report.proofs.known.no_sets.Given as goal

abbrev pub invariant-loop : goal.invariant-loop
invariant-loop l = l.sets.items ≡ replicate l.counter empty
