use Rattle.std.proofs.Common.{◌≡◌, ◌++◌, take}
use Rattle.std.specs.List.{flat_map}
use Rattle.report_page.specs.Tables.{bar_row}
use Rattle.report_page.proofs.bars.put_each_bar.Given as goal

abbrev pub invariant-loop-bar : goal.invariant-loop-bar
invariant-loop-bar l =
    l.text.items ≡ l.fn.text.items ++ flat_map (bar_row l.policy) (take l.bar-index l.bars)
