use Rattle.std.proofs.Common.{◌≡◌, ◌++◌, take}
use Rattle.std.specs.List.{flat_map}
use Rattle.report_page.specs.Tables.{wait_row}
use Rattle.report_page.proofs.waits.put_each_wait.Given as goal

abbrev pub invariant-loop-it : goal.invariant-loop-it
invariant-loop-it l = l.text.items
    ≡ l.fn.text.items ++ flat_map (wait_row l.policy l.book.list) (take l.it-index l.waits)
