use Rattle.std.proofs.Common.{rules, ◌≡◌, ◌∙◌, ◌++◌, List, ℕ, ap, subst}
use Rattle.audit_book.specs.Text.{entry_lines}
use Rattle.live_book.specs.Writing.{TellsWritten, WritesAll, sink_value}
use Rattle.live_book.proofs.WritingLemmas.{told_then}
use Rattle.live_book.proofs.lines.write_news.Goals as goal

pub returns-in_err-send_text-clause-written : goal.returns-in_err-send_text-clause-written
returns-in_err-send_text-clause-written g c =
    let wall = c.args.hall.now.hall.policy in
    let news = c.news.result.now.list in
    let sv = sink_value g.B.Sink.contents g.B.BookSink.lasting g.B.Sink.failures in
    let is : c.put_entries.new.text.items ≡ entry_lines wall c.args.hall.now.news =
    c.in_ok-put_entries.ensures.put
    ∙ ap (λ (t : List ℕ). t ++ entry_lines c.policy.result.now news) c.requires
    ∙ ap (λ w. entry_lines w news) c.policy.ensures
    ∙ ap (entry_lines wall) c.news.ensures.value in
    subst (λ (t : List ℕ). TellsWritten c.from_residual-in_err-send_text.result
    (sv c.args.sink.now) (sv c.send_text.new.sink) t)
    is (search rules)

pub returns-clause-written : goal.returns-clause-written
returns-clause-written g c =
    let wall = c.args.hall.now.hall.policy in
    let news = c.news.result.now.list in
    let sv = sink_value g.B.Sink.contents g.B.BookSink.lasting g.B.Sink.failures in
    let is : c.put_entries.new.text.items ≡ entry_lines wall c.args.hall.now.news =
    c.in_ok-put_entries.ensures.put
    ∙ ap (λ (t : List ℕ). t ++ entry_lines c.policy.result.now news) c.requires
    ∙ ap (λ w. entry_lines w news) c.policy.ensures
    ∙ ap (entry_lines wall) c.news.ensures.value in
    told_then c.tell.result (sv c.args.sink.now) (sv c.send_text.new.sink) (sv c.tell.new.sink)
    (entry_lines wall c.args.hall.now.news)
    (subst (λ (t : List ℕ). WritesAll (sv c.args.sink.now) (sv c.send_text.new.sink) t) is
    c.in_ok-send_text.ensures.written)
    c.tell.ensures.went c.tell.ensures.fault c.tell.ensures.same
