use Rattle.std.proofs.Common.{◌≡◌, ◌++◌, take}
use Rattle.std.specs.List.{flat_map}
use Rattle.report_text.specs.Reasons.{bar_line}
use Rattle.report_text.proofs.bars.put_bar_lines.Given as goal

abbrev pub invariant-loop-bar : goal.invariant-loop-bar
invariant-loop-bar l =
    l.text.items ≡ l.fn.text.items ++ flat_map (bar_line l.policy) (take l.bar-index l.bars)
