use Rattle.std.proofs.Common.{◌≡◌, ◌++◌, drop}
use Rattle.report_text.specs.Words.{numbered}
use Rattle.report_page.specs.Tables.{entry_row}
use Rattle.report_page.proofs.instances.put_entries.Given as goal

-- the text so far, and the rows that are left
abbrev pub invariant-loop-at : goal.invariant-loop-at
invariant-loop-at l =
    l.text.items ++ numbered (entry_row l.policy l.book.list) l.at (drop l.at l.book.list)
    ≡ l.fn.text.items ++ numbered (entry_row l.policy l.book.list) 0 l.book.list
