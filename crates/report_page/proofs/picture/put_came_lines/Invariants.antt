use Rattle.std.proofs.Common.{◌≡◌, ◌++◌, take}
use Rattle.std.specs.List.{flat_map}
use Rattle.report_page.specs.Picture.{came_line}
use Rattle.report_page.proofs.picture.put_came_lines.Given as goal

abbrev pub invariant-loop-row : goal.invariant-loop-row
invariant-loop-row l =
    l.text.items ≡ l.fn.text.items ++ flat_map came_line (take l.row-index l.rows)
