use Rattle.std.proofs.Common.{◌≡◌, ◌++◌, take}
use Rattle.std.specs.List.{flat_map}
use Rattle.report_page.specs.Tables.{denial_row}
use Rattle.report_page.proofs.denials.put_each_denial.Given as goal

abbrev pub invariant-loop-denial : goal.invariant-loop-denial
invariant-loop-denial l = l.text.items
    ≡ l.fn.text.items ++ flat_map (denial_row l.policy) (take l.denial-index l.denials)
