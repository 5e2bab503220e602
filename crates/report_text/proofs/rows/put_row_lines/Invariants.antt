use Rattle.std.proofs.Common.{◌≡◌, ◌++◌, take}
use Rattle.std.specs.List.{flat_map}
use Rattle.report_text.specs.Rows.{row_line}
use Rattle.report_text.proofs.rows.put_row_lines.Given as goal

abbrev pub invariant-loop-row : goal.invariant-loop-row
invariant-loop-row l = l.text.items
    ≡ l.fn.text.items ++ flat_map (row_line l.policy l.book.list) (take l.row-index l.rows)
