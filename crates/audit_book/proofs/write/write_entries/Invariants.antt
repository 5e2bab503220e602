use Rattle.std.proofs.Common.{◌≡◌, ◌++◌, take}
use Rattle.std.specs.Prelude.{All}
use Rattle.audit_book.specs.Text.{entry_lines}
use Rattle.audit_book.specs.Laws.{IsSpelled}
use Rattle.coll_text.specs.Writing.{Moves}
use Rattle.audit_book.proofs.write.write_entries.Given as goal

abbrev pub invariant-loop-at : goal.invariant-loop-at
invariant-loop-at g l = record {
  count : g.W.Sink.failures l.sink ≡ g.W.Sink.failures l.fn.sink;
  moved : Moves (g.W.Sink.contents l.fn.sink) (g.W.Sink.contents l.sink)
      (l.fn.text.items ++ entry_lines l.policy (take l.at l.book.list)) l.text.items;
  spelled : All (IsSpelled l.policy) (take l.at l.book.list);
}
