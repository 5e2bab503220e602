use Rattle.std.proofs.Common.{All}
use Rattle.hall_script.specs.Telling.{IsNothing}
use Rattle.hall_script.proofs.kept.no_lines.Given as goal

abbrev pub invariant-loop : goal.invariant-loop
invariant-loop l = All IsNothing l.lines.items
