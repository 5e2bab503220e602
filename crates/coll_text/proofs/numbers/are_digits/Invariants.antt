use Rattle.std.proofs.Common.{◌≡◌, take}
use Rattle.std.specs.List.{list_all}
use Rattle.coll_text.specs.Numbers.{is_digit}
use Rattle.coll_text.proofs.numbers.are_digits.Given as goal

abbrev pub invariant-loop-byte : goal.invariant-loop-byte
invariant-loop-byte l = l.are_all ≡ list_all is_digit (take l.byte-index l.bytes)
