use Rattle.std.proofs.Common.{◌≡◌, ◌++◌, drop}
use Rattle.report_text.specs.Words.{numbered}
use Rattle.report_text.specs.Members.{member_line, member_lines}
use Rattle.report_text.proofs.members.put_members.Given as goal

-- the text so far, and the lines that are left
abbrev pub invariant-loop-rank : goal.invariant-loop-rank
invariant-loop-rank l =
    l.text.items ++ numbered (member_line l.policy l.comm) l.rank (drop l.rank l.group)
    ≡ l.fn.text.items ++ member_lines l.policy l.comm l.group
