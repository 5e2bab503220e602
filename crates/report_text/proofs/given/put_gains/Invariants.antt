use Rattle.std.proofs.Common.{◌≡◌, ◌++◌, take}
use Rattle.std.specs.List.{flat_map}
use Rattle.report_text.specs.Given.{gain_line}
use Rattle.report_text.proofs.given.put_gains.Given as goal

abbrev pub invariant-loop-row : goal.invariant-loop-row
invariant-loop-row l = l.text.items ≡ l.fn.text.items
    ++ flat_map (gain_line l.policy l.book.list l.run) (take l.row-index l.rows)
