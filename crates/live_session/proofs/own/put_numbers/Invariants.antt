use Rattle.std.proofs.Common.{◌≡◌, ◌++◌, take}
use Rattle.live_session.specs.Lines.{behind_spaces}
use Rattle.live_session.proofs.own.put_numbers.Given as goal

abbrev pub invariant-loop-number : goal.invariant-loop-number
invariant-loop-number l =
    l.text.items ≡ l.fn.text.items ++ behind_spaces (take l.number-index l.numbers)
