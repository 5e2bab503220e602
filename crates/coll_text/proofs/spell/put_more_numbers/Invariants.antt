use Rattle.std.proofs.Common.{◌≡◌, ◌++◌, take}
use Rattle.std.specs.Fmt.{decimal}
use Rattle.coll_text.specs.Spaced.{behind_comma}
use Rattle.coll_text.proofs.spell.put_more_numbers.Given as goal

abbrev pub invariant-loop-n : goal.invariant-loop-n
invariant-loop-n l =
    l.text.items ≡ l.fn.text.items ++ behind_comma decimal (take l.n-index l.numbers)
