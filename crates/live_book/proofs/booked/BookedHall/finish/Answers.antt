use Rattle.std.proofs.Common.{Option, subst}
use Rattle.audit_book.specs.Text.{end_words, line_of}
use Rattle.live_book.specs.declared.unbooked.Unbooked.{Unbooked}
use Rattle.live_book.specs.Writing.{Writes, sink_value}
use Rattle.live_book.proofs.WritingLemmas.{count_is, last_all, last_prefix}
use Rattle.live_book.proofs.booked.BookedHall.finish.Goals as goal
use Rattle.live_book.proofs.booked.BookedHall.finish.Goals.{in-None, in-Some}

pub returns : goal.returns
returns g c = rw (← c.self.view_is) (λ wall run stands.
    let sv = sink_value g.B.Sink.contents g.B.BookSink.lasting g.B.Sink.failures in
    elim c.match-fault.branch [
      | in-None w ↦ rw w.written-is (last_all wall g.K.Begun.begun
          (sv c.self.inside.writer.sink) (sv c.write_last.new.self.sink) run
          c.self.inside.writer.entries
          c.self.inside.writer.fault
          (λ none. count_is wall c.self.inside.hall.hall.policy run c.self.inside.hall.gone
          c.self.inside.hall.news c.self.inside.writer.entries stands.policy
          (c.news.ensures.runs run stands.hall) c.self.invariant.news
          (c.self.invariant.entries none))
          stands.book
          (subst (λ (o : Option Unbooked). Writes c.self.inside.writer.fault o
          (sv c.self.inside.writer.sink)
          (sv c.write_last.new.self.sink) (line_of (end_words c.self.inside.writer.entries)))
          w.in-None.is c.write_last.ensures))
      | in-Some w ↦ rw w.written-is (last_prefix wall g.K.Begun.begun
          (sv c.self.inside.writer.sink) (sv c.write_last.new.self.sink) run
          c.self.inside.writer.entries
          c.self.inside.writer.fault w.in-Some.fault
          (λ none. count_is wall c.self.inside.hall.hall.policy run c.self.inside.hall.gone
          c.self.inside.hall.news c.self.inside.writer.entries stands.policy
          (c.news.ensures.runs run stands.hall) c.self.invariant.news
          (c.self.invariant.entries none))
          stands.book
          (subst (λ (o : Option Unbooked). Writes c.self.inside.writer.fault o
          (sv c.self.inside.writer.sink)
          (sv c.write_last.new.self.sink) (line_of (end_words c.self.inside.writer.entries)))
          w.in-Some.is c.write_last.ensures))
    ])
