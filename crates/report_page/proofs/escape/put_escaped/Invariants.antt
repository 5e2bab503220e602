use Rattle.std.proofs.Common.{◌≡◌, ◌++◌, take}
use Rattle.report_page.specs.Escapes.{escaped}
use Rattle.report_page.proofs.escape.put_escaped.Given as goal

abbrev pub invariant-loop-byte : goal.invariant-loop-byte
invariant-loop-byte l =
    l.text.items ≡ l.fn.text.items ++ escaped (take l.byte-index l.words)
