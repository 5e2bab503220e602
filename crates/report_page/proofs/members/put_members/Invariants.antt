use Rattle.std.proofs.Common.{◌≡◌, ◌++◌, drop}
use Rattle.report_text.specs.Words.{numbered}
use Rattle.report_page.specs.Tables.{member_row, member_rows}
use Rattle.report_page.proofs.members.put_members.Given as goal

-- the text so far, and the rows that are left
abbrev pub invariant-loop-rank : goal.invariant-loop-rank
invariant-loop-rank l =
    l.text.items ++ numbered (member_row l.policy l.comm) l.rank (drop l.rank l.group)
    ≡ l.fn.text.items ++ member_rows l.policy l.comm l.group
