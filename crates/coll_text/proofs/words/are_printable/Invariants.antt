use Rattle.std.proofs.Common.{◌≡◌, take}
use Rattle.std.specs.List.{list_all}
use Rattle.coll_text.specs.Reading.{is_printable}
use Rattle.coll_text.proofs.words.are_printable.Given as goal

abbrev pub invariant-loop-byte : goal.invariant-loop-byte
invariant-loop-byte l = l.are_all ≡ list_all is_printable (take l.byte-index l.line)
