use Rattle.std.proofs.Common.{◌≡◌, ◌+◌, ◌-◌, drop}
use Rattle.check_text.proofs.script.take_line.Given as goal

abbrev pub invariant-loop : goal.invariant-loop
invariant-loop l = l.lines ≡ drop (l.counter - (l.passed + 1)) l.fn.lines
