use Rattle.std.proofs.Common.{take}
use Rattle.std.specs.List.{All}
use Rattle.book_chain.specs.Prefixes.{IsBelow}
use Rattle.book_chain.proofs.prefix.are_below.Given as goal

abbrev pub invariant-loop-at : goal.invariant-loop-at
invariant-loop-at l = All (IsBelow l.number) (take l.at l.book.list)
