use Rattle.std.proofs.Common.{◌≡◌, ◌++◌, take}
use Rattle.audit_book.specs.Text.{entry_lines}
use Rattle.live_book.proofs.lines.put_entries.Given as goal

abbrev pub invariant-loop-at : goal.invariant-loop-at
invariant-loop-at l =
    l.text.items ≡ l.fn.text.items ++ entry_lines l.policy (take l.at l.news.list)
