use Rattle.std.proofs.Common.{rules, [], ◌++◌, refl, append-nil}
use Rattle.coll_text.proofs.CollTextLemmas.{moves_stop, moves_end, moves_break, moves_more}
use Rattle.seal_stream.specs.Seals.{lines_text}
use Rattle.seal_stream.proofs.FaultLemmas.{bad_entry}
use Rattle.seal_stream.proofs.stream.finish.Goals as goal

pub returns-in-Some-BadEntry-clause-ends : goal.returns-in-Some-BadEntry-clause-ends
returns-in-Some-BadEntry-clause-ends g c = λ before lines kept line s are. (
  moves_stop before (g.W.Sink.contents c.args.sealed.now) (lines_text kept)
      c.args.writer.now.pending.items [] (lines_text kept) s.moved (append-nil (lines_text kept)),
  bad_entry c.args.policy.now c.args.writer.now.reading lines kept s.judged
      c.in-Some-BadEntry.number (search rules),
)

pub returns-in-Ok-send-clause-ends : goal.returns-in-Ok-send-clause-ends
returns-in-Ok-send-clause-ends g c = λ before lines kept line s are.
    let now = g.W.Sink.contents c.args.sealed.now in
    let done = c.in-Ok.ensures lines kept are s.judged in
    let whole = lines_text kept ++ done.0 in (
      whole,
      moves_end before now (g.W.Sink.contents c.send.new.sink) whole c.put_tail.new.text.items whole
          (moves_more before now (lines_text kept) c.args.writer.now.pending.items
          c.put_tail.new.text.items done.0 s.moved done.1) c.in-Ok-send.ensures.sent refl,
      done.2,
    )

pub returns-in-Err-send-clause-ends : goal.returns-in-Err-send-clause-ends
returns-in-Err-send-clause-ends g c = λ before lines kept line s are.
    let now = g.W.Sink.contents c.args.sealed.now in
    let done = c.in-Ok.ensures lines kept are s.judged in
    let whole = lines_text kept ++ done.0 in (
      whole,
      moves_break before now (g.W.Sink.contents c.send.new.sink) whole c.put_tail.new.text.items []
          whole (moves_more before now (lines_text kept) c.args.writer.now.pending.items
          c.put_tail.new.text.items done.0 s.moved done.1) c.in-Err-send.ensures.prefix
          (append-nil whole),
      λ text cut. (done.2 text cut).0,
    )
