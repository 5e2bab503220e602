use Rattle.std.proofs.Common.{◌≡◌, ◌∷◌, ◌++◌, List, length}
use Rattle.coll_text.specs.Numbers.{Word}
use Rattle.coll_text.specs.Reading.{parts}
use Rattle.book_stream.specs.Cuts.{behind}
use Rattle.book_stream.specs.Audits.{StandsBehind}
use Rattle.book_stream.proofs.stream.take_in.Given as goal

-- it stands behind the finished lines so far, in the line at hand
abbrev pub invariant-loop-part : goal.invariant-loop-part
invariant-loop-part l = (lines : List Word) (line : Word) →
    StandsBehind l.policy l.fn.reader lines line → (done : List Word) × (now : Word)
    × (behind line (parts 10 l.bytes) ≡ done ++ now ∷ l.parts)
    × StandsBehind l.policy l.reader (lines ++ done) now

abbrev pub decreases-loop-part : goal.decreases-loop-part
decreases-loop-part l = length l.parts
