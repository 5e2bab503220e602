use Rattle.std.proofs.Common.{◌≡◌, ◌++◌, take}
use Rattle.std.specs.List.{flat_map}
use Rattle.report_page.specs.Tables.{held_row}
use Rattle.report_page.proofs.rows.put_each_row.Given as goal

abbrev pub invariant-loop-row : goal.invariant-loop-row
invariant-loop-row l = l.text.items
    ≡ l.fn.text.items ++ flat_map (held_row l.policy l.book.list) (take l.row-index l.rows)
