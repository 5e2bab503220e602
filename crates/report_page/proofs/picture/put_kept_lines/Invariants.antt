use Rattle.std.proofs.Common.{◌≡◌, ◌++◌, take}
use Rattle.std.specs.List.{flat_map}
use Rattle.report_page.specs.Picture.{kept_line}
use Rattle.report_page.proofs.picture.put_kept_lines.Given as goal

abbrev pub invariant-loop-denial : goal.invariant-loop-denial
invariant-loop-denial l =
    l.text.items ≡ l.fn.text.items ++ flat_map kept_line (take l.denial-index l.denials)
