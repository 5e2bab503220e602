use Rattle.std.proofs.Common.{◌≤◌, take, length}
use Rattle.std.specs.Prelude.{All}
use Rattle.book_report.proofs.turns.most.Given as goal

abbrev pub invariant-loop-turns : goal.invariant-loop-turns
invariant-loop-turns l = All (λ turns. length turns.items ≤ l.most) (take l.turns-index l.all)
