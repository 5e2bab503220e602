use Rattle.std.proofs.lemmas.Result.{err_from_is_err_and}
use Rattle.audit_book.proofs.WriteLemmas.{book_broken, book_stopped, book_written, book_cut_off}
use Rattle.audit_book.proofs.WriteLemmas.{book_is_again}
use Rattle.audit_book.proofs.write.write_book.Goals as goal

pub returns-in_err-write_entries-clause-prefix : goal.returns-in_err-write_entries-clause-prefix
returns-in_err-write_entries-clause-prefix g c =
    let p = err_from_is_err_and c.from_residual-in_err-write_entries.result
    c.from_residual-in_err-write_entries.ensures.1 in
    rw p.1 (book_broken c.args.policy.now c.args.book.now.list
    c.new-text.result.items c.put_header.new.text.items
    c.new-text.ensures.items c.in_ok-put_header.ensures
    (g.W.Sink.contents c.args.sink.now) (g.W.Sink.contents c.write_entries.new.sink)
    c.in_err-write_entries.ensures.prefix)

pub returns-in_err-put_end-clause-prefix : goal.returns-in_err-put_end-clause-prefix
returns-in_err-put_end-clause-prefix g c =
    let p = err_from_is_err_and c.from_residual-in_err-put_end.result
    c.from_residual-in_err-put_end.ensures.1 in
    rw p.1 (book_stopped c.args.policy.now c.args.book.now.list
    c.new-text.result.items c.put_header.new.text.items
    c.new-text.ensures.items c.in_ok-put_header.ensures
    (g.W.Sink.contents c.args.sink.now) (g.W.Sink.contents c.write_entries.new.sink)
    c.write_entries.new.text.items c.in_ok-write_entries.ensures.moved)

pub returns-in-Ok-clause-written : goal.returns-in-Ok-clause-written
returns-in-Ok-clause-written g c =
    book_written c.args.policy.now c.args.book.now.list
    c.new-text.result.items c.put_header.new.text.items c.new-text.ensures.items
    c.in_ok-put_header.ensures
    (g.W.Sink.contents c.args.sink.now) (g.W.Sink.contents c.write_entries.new.sink)
    c.write_entries.new.text.items c.in_ok-write_entries.ensures.moved
    (g.W.Sink.contents c.send.new.sink) c.len.result c.len.ensures.value c.put_end.new.text.items
    c.in_ok-put_end.ensures c.in-Ok.ensures.sent

pub returns-in-Ok-clause-again : goal.returns-in-Ok-clause-again
returns-in-Ok-clause-again g c =
    book_is_again c.args.policy.now c.args.book.now.list c.processes.ensures.policy
    c.in_ok-write_entries.ensures.spelled c.len.ensures.few

pub returns-clause-prefix : goal.returns-clause-prefix
returns-clause-prefix g c =
    book_cut_off c.args.policy.now c.args.book.now.list
    c.new-text.result.items c.put_header.new.text.items c.new-text.ensures.items
    c.in_ok-put_header.ensures
    (g.W.Sink.contents c.args.sink.now) (g.W.Sink.contents c.write_entries.new.sink)
    c.write_entries.new.text.items c.in_ok-write_entries.ensures.moved
    (g.W.Sink.contents c.send.new.sink) c.len.result c.len.ensures.value c.put_end.new.text.items
    c.in_ok-put_end.ensures c.in-Err.ensures.prefix
