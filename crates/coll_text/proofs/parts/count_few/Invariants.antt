use Rattle.std.proofs.Common.{◌≡◌, ◌==◌, take}
use Rattle.std.specs.List.{count_by}
use Rattle.coll_text.proofs.parts.count_few.Given as goal

abbrev pub invariant-loop-byte : goal.invariant-loop-byte
invariant-loop-byte l = l.count ≡ count_by (λ b. b == l.separator) (take l.byte-index l.text)
