use Rattle.std.proofs.Common.{ap, length, ◌∙◌, ◌∷◌, Some}
use Rattle.audit_book.specs.Text.{entry_lines}
use Rattle.run_model.specs.Runs.{entry}
use Rattle.live_book.specs.declared.unbooked.Unbooked.{Unbooked}
use Rattle.live_book.specs.Writing.{sink_value}
use Rattle.live_book.proofs.WritingLemmas.{replies_still, settles_by, stands_more, stands_still}
use Rattle.live_book.proofs.WritingLemmas.{count_more, sticks_by}
use Rattle.live_book.proofs.booked.BookedHall.apply.Goals as goal

pub returns-clause-replies : goal.returns-clause-replies
returns-clause-replies g c = rw (← c.self.view_is) (replies_still c.self.inside.hall.hall
    c.apply-reply.new.self.hall c.forget.new.self.hall c.apply-reply.result
    c.apply-reply.ensures.replies c.forget.ensures.unchanged)

pub returns-clause-carries : goal.returns-clause-carries
returns-clause-carries g c = rw (← c.self.view_is) (λ wall run legal stands.
    let after = c.apply-reply.ensures.carries wall run legal (stands.policy, stands.hall) in
    let later = entry c.args.call c.apply-reply.result ∷ run in (
      after.0,
      stands_more wall c.self.inside.hall.hall c.forget.new.self.hall
          g.K.Begun.begun
          (sink_value g.B.Sink.contents g.B.BookSink.lasting g.B.Sink.failures
          c.self.inside.writer.sink)
          (sink_value g.B.Sink.contents g.B.BookSink.lasting g.B.Sink.failures
          c.write_down.new.self.sink)
          (record { entries = c.self.inside.writer.entries; hasher = c.self.inside.writer.hasher })
          (record {
            entries = c.write_down.new.self.entries;
            hasher = c.write_down.new.self.hasher;
          })
          c.self.inside.writer.fault c.write_down.new.self.fault run
          (entry c.args.call c.apply-reply.result) c.apply-reply.new.self.hall.policy
          c.self.inside.hall.news c.apply-reply.new.self.news c.self.invariant.news after.1.0
          (stands_still wall c.apply-reply.new.self.hall c.forget.new.self.hall later
          c.forget.ensures.unchanged (c.forget.ensures.runs later) after.1)
          (c.apply-reply.ensures.news wall run legal (stands.policy, stands.hall))
          c.write_down.ensures.writes
          (λ none fault at long. count_more wall c.apply-reply.new.self.hall.policy later
          c.apply-reply.new.self.gone c.self.inside.hall.gone c.apply-reply.new.self.news
          c.self.inside.writer.entries after.1.0
          (c.news.ensures.runs later after.1.1) c.apply-reply.ensures.gone
          (c.self.invariant.entries none)
          (c.write_down.ensures.too_long none
          (at ∙ ap (λ (f : Unbooked). Some f) long)))
          (λ whole. (
            c.write_down.ensures.before whole,
            record {
              entries = c.write_down.ensures.entries whole;
              holds = c.write_down.ensures.holds whole;
            },
          ))
          stands,
      after.2,
    ))

pub returns-clause-settled : goal.returns-clause-settled
returns-clause-settled g c = rw (← c.self.view_is) (λ wall run legal stands.
    settles_by wall run (entry c.args.call c.apply-reply.result)
    c.len-settled.result c.self.inside.hall.news c.apply-reply.new.self.news
    c.self.invariant.news
    (c.apply-reply.ensures.news wall run legal (stands.policy, stands.hall))
    (c.len-settled.ensures.value ∙ ap length c.news.ensures.value))

pub returns-clause-apart : goal.returns-clause-apart
returns-clause-apart g c = rw (← c.self.view_is) (λ wall run legal stands.
    c.apply-reply.ensures.apart wall run legal (stands.policy, stands.hall))

pub returns-clause-sticks : goal.returns-clause-sticks
returns-clause-sticks g c = rw (← c.self.view_is) (sticks_by c.self.inside.writer.fault
    c.write_down.new.self.fault
    (sink_value g.B.Sink.contents g.B.BookSink.lasting g.B.Sink.failures
    c.self.inside.writer.sink)
    (sink_value g.B.Sink.contents g.B.BookSink.lasting g.B.Sink.failures
    c.write_down.new.self.sink)
    (entry_lines c.apply-reply.new.self.hall.policy c.apply-reply.new.self.news)
    c.write_down.ensures.writes)
