use Rattle.std.proofs.Common.{◌≡◌, ◌++◌, map, take}
use Rattle.check_text.specs.Words.{shown}
use Rattle.check_text.proofs.words.put_shown.Given as goal

abbrev pub invariant-loop-byte : goal.invariant-loop-byte
invariant-loop-byte l =
    l.text.items ≡ l.fn.text.items ++ map shown (take l.byte-index l.bytes)
