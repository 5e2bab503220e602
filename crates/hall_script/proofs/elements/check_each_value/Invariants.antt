use Rattle.std.proofs.Common.{◌≡◌, length}
use Rattle.coll_text.specs.Reading.{each_of}
use Rattle.coll_text.specs.Checks.{checked}
use Rattle.hall_script.specs.Lines.{value_of}
use Rattle.hall_script.proofs.elements.check_each_value.Given as goal

abbrev pub invariant-loop-word : goal.invariant-loop-word
invariant-loop-word l = checked (each_of (value_of l.elem_type) l.words)
    ≡ checked (each_of (value_of l.elem_type) l.fn.words)

abbrev pub decreases-loop-word : goal.decreases-loop-word
decreases-loop-word l = length l.words
