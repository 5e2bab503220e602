use Rattle.std.proofs.Common.{◌≡◌, ◌++◌, take}
use Rattle.coll_values.specs.Values.{value}
use Rattle.hall_script.specs.Replies.{blocks_text}
use Rattle.hall_script.proofs.copies.put_copies.Given as goal

abbrev pub invariant-loop-place : goal.invariant-loop-place
invariant-loop-place l =
    l.line.items ≡ l.fn.line.items ++ blocks_text (take l.place (value l.full l.rank))
