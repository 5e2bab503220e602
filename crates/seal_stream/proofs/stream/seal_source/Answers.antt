use Rattle.std.proofs.Common.{sym, subst}
use Rattle.hall_script.specs.Devices.{used}
use Rattle.seal_stream.specs.Seals.{IsStopped}
use Rattle.seal_stream.proofs.EndLemmas.{lines_are, nothing_stopped, is_stopped, whole_are}
use Rattle.seal_stream.proofs.EndLemmas.{sealed_by, stopped_by}
use Rattle.seal_stream.proofs.stream.seal_source.Goals as goal

pub returns-in-Err-clause-stopped : goal.returns-in-Err-clause-stopped
returns-in-Err-clause-stopped g c =
    subst (IsStopped c.args.policy.now
    (used g.B.Source.failures g.B.Source.remaining c.args.book.now c.args.book.now)
    (used g.W.Sink.failures g.W.Sink.contents c.args.sealed.now c.args.sealed.now))
    (sym c.from.ensures)
    (nothing_stopped c.args.policy.now c.processes.ensures.policy
    (used g.B.Source.failures g.B.Source.remaining c.args.book.now c.args.book.now)
    g.W.Sink.failures g.W.Sink.contents c.args.sealed.now c.args.sealed.now)

pub begins_soundly-requires : goal.begins_soundly-requires
begins_soundly-requires g c =
    let s = c.in-Err-read_whole.ensures.stopped in (
      s.lines,
      s.kept,
      lines_are c.args.policy.now c.processes.ensures.policy c.read_whole.new.writer.reading s.text
          s.lines s.kept s.more s.front s.judged,
      s.judged,
    )

pub returns-in-Err-read_whole-clause-stopped : goal.returns-in-Err-read_whole-clause-stopped
returns-in-Err-read_whole-clause-stopped g c =
    let s = c.in-Err-read_whole.ensures.stopped in
    let wall = c.args.policy.now in
    let policy = c.processes.ensures.policy in
    is_stopped wall policy
    (used g.B.Source.failures g.B.Source.remaining c.args.book.now c.read_whole.new.book)
    g.W.Sink.failures g.W.Sink.contents c.args.sealed.now c.read_whole.new.sealed
    c.read_whole.new.writer c.in-Err-read_whole.stop s
    (c.begins_soundly.ensures s.lines s.kept
    (lines_are wall policy c.read_whole.new.writer.reading s.text s.lines s.kept s.more s.front
    s.judged) s.judged) c.in-Err-read_whole.ensures.failed

pub begins_soundly-requires-2 : goal.begins_soundly-requires-2
begins_soundly-requires-2 g c =
    let r = c.in-Ok-read_whole.ensures.whole in (
      r.lines,
      r.kept,
      whole_are c.args.policy.now c.processes.ensures.policy
          (used g.B.Source.failures g.B.Source.remaining c.args.book.now c.read_whole.new.book)
          g.W.Sink.failures g.W.Sink.contents c.args.sealed.now c.read_whole.new.sealed
          c.read_whole.new.writer c.read_whole.new.sealed r,
      r.stands.judged,
    )

pub finish-requires : goal.finish-requires
finish-requires g c =
    let r = c.in-Ok-read_whole.ensures.whole in (
      r.lines,
      r.kept,
      whole_are c.args.policy.now c.processes.ensures.policy
          (used g.B.Source.failures g.B.Source.remaining c.args.book.now c.read_whole.new.book)
          g.W.Sink.failures g.W.Sink.contents c.args.sealed.now c.read_whole.new.sealed
          c.read_whole.new.writer c.read_whole.new.sealed r,
      r.stands.judged,
    )

pub returns-clause-sealed : goal.returns-clause-sealed
returns-clause-sealed g c =
    let r = c.in-Ok-read_whole.ensures.whole in
    let wall = c.args.policy.now in
    let policy = c.processes.ensures.policy in
    let book = used g.B.Source.failures g.B.Source.remaining c.args.book.now c.read_whole.new.book in
    let are = whole_are wall policy book g.W.Sink.failures g.W.Sink.contents c.args.sealed.now
    c.finish.new.sealed c.read_whole.new.writer c.read_whole.new.sealed r in
    sealed_by wall policy book g.W.Sink.failures g.W.Sink.contents c.args.sealed.now
    c.finish.new.sealed c.a_text_has_one_seal.ensures c.cut_books_have_their_seal.ensures
    c.read_whole.new.writer c.read_whole.new.sealed r
    (c.begins_soundly-2.ensures r.lines r.kept are r.stands.judged) c.in-Ok-read_whole.ensures.went
    c.finish.result (c.finish.ensures.ends (g.W.Sink.contents c.args.sealed.now) r.lines r.kept r.line
    r.stands are) c.finish.ensures.went

pub returns-clause-stopped : goal.returns-clause-stopped
returns-clause-stopped g c =
    let r = c.in-Ok-read_whole.ensures.whole in
    let wall = c.args.policy.now in
    let policy = c.processes.ensures.policy in
    let book = used g.B.Source.failures g.B.Source.remaining c.args.book.now c.read_whole.new.book in
    let are = whole_are wall policy book g.W.Sink.failures g.W.Sink.contents c.args.sealed.now
    c.finish.new.sealed c.read_whole.new.writer c.read_whole.new.sealed r in
    stopped_by wall policy book g.W.Sink.failures g.W.Sink.contents c.args.sealed.now
    c.finish.new.sealed c.a_text_has_one_seal.ensures c.cut_books_have_their_seal.ensures
    c.read_whole.new.writer c.read_whole.new.sealed r
    (c.begins_soundly-2.ensures r.lines r.kept are r.stands.judged) c.in-Ok-read_whole.ensures.went
    c.finish.result (c.finish.ensures.ends (g.W.Sink.contents c.args.sealed.now) r.lines r.kept r.line
    r.stands are) c.finish.ensures.failed
