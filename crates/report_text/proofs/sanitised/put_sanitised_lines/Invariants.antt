use Rattle.std.proofs.Common.{◌≡◌, ◌++◌, take}
use Rattle.std.specs.List.{flat_map}
use Rattle.report_text.specs.Sanitised.{sanitised_line}
use Rattle.report_text.proofs.sanitised.put_sanitised_lines.Given as goal

abbrev pub invariant-loop-it : goal.invariant-loop-it
invariant-loop-it l = l.text.items
    ≡ l.fn.text.items ++ flat_map (sanitised_line l.policy l.book.list) (take l.it-index l.those)
