use Rattle.std.proofs.Common.{◌≡◌, ◌++◌, take}
use Rattle.std.specs.List.{flat_map}
use Rattle.report_text.specs.Reasons.{denial_line}
use Rattle.report_text.proofs.denials.put_denial_lines.Given as goal

abbrev pub invariant-loop-denial : goal.invariant-loop-denial
invariant-loop-denial l = l.text.items
    ≡ l.fn.text.items ++ flat_map (denial_line l.policy) (take l.denial-index l.denials)
