use Rattle.std.proofs.Common.{◌≡◌, ◌++◌, drop}
use Rattle.report_text.specs.Words.{numbered}
use Rattle.report_page.specs.Tables.{comm_rows}
use Rattle.report_page.proofs.members.put_comms.Given as goal

-- the text so far, and the rows that are left
abbrev pub invariant-loop-comm : goal.invariant-loop-comm
invariant-loop-comm l =
    l.text.items ++ numbered (comm_rows l.policy) l.comm (drop l.comm l.post_state.comms)
    ≡ l.fn.text.items ++ numbered (comm_rows l.policy) 0 l.post_state.comms
