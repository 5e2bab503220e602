use Rattle.std.proofs.Common.{◌≡◌, ◌≤◌, ◌+◌, length, take}
use Rattle.book_places.proofs.owed.prefix.Given as goal

-- the entries before this one are copied, and there is room for the others
abbrev pub invariant-loop-at : goal.invariant-loop-at
invariant-loop-at l = (l.prefix.list ≡ take l.at l.book.list)
    × (l.number ≤ l.prefix.room + l.at)
