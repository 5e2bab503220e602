use Rattle.std.proofs.Common.{◌≡◌, ◌++◌, take}
use Rattle.std.specs.List.{flat_map}
use Rattle.report_text.specs.Waits.{wait_line}
use Rattle.report_text.proofs.waits.put_wait_lines.Given as goal

abbrev pub invariant-loop-it : goal.invariant-loop-it
invariant-loop-it l = l.text.items
    ≡ l.fn.text.items ++ flat_map (wait_line l.policy l.book.list) (take l.it-index l.waits)
