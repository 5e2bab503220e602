use Rattle.std.proofs.Common.{◌≡◌, length, slice_get}
use Rattle.coll_text.specs.Reading.{parts}
use Rattle.book_places.proofs.line.part_at.Given as goal

abbrev pub invariant-loop-part : goal.invariant-loop-part
invariant-loop-part l =
    slice_get l.parts l.left ≡ slice_get (parts 10 l.text) l.place

abbrev pub decreases-loop-part : goal.decreases-loop-part
decreases-loop-part l = length l.parts
