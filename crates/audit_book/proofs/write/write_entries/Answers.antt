use Rattle.std.proofs.Common.{◌∙◌}
use Rattle.audit_book.proofs.WriteLemmas.{stops, breaks, goes_on, spelled_more}
use Rattle.audit_book.proofs.write.write_entries.Goals as goal

pub returns-in-Err-clause-prefix : goal.returns-in-Err-clause-prefix
returns-in-Err-clause-prefix g c =
    stops c.args.policy.now c.args.book.now.list c.args.text.now.items
    (g.W.Sink.contents c.args.sink.now) (g.W.Sink.contents c.loop-at.sink)
    c.loop-at.at c.loop-at.text.items c.loop-at.invariant.moved

pub returns-in-Err-send_long-clause-prefix : goal.returns-in-Err-send_long-clause-prefix
returns-in-Err-send_long-clause-prefix g c =
    breaks c.args.policy.now c.args.book.now.list c.args.text.now.items
    (g.W.Sink.contents c.args.sink.now) (g.W.Sink.contents c.loop-at.sink)
    (g.W.Sink.contents c.send_long.new.sink) c.loop-at.at c.get-entry.result.now
    c.loop-at.text.items c.put_entry.new.text.items c.get-entry.ensures.entry
    c.loop-at.invariant.moved c.in-Ok.ensures c.in-Err-send_long.ensures.prefix

pub loop-at-preserved : goal.loop-at-preserved
loop-at-preserved g c = record {
  count = c.in-Ok-send_long.ensures.went ∙ c.loop-at.invariant.count;
  moved = goes_on c.args.policy.now c.args.book.now.list c.args.text.now.items
      (g.W.Sink.contents c.args.sink.now) (g.W.Sink.contents c.loop-at.sink)
      (g.W.Sink.contents c.send_long.new.sink) c.loop-at.at c.get-entry.result.now
      c.loop-at.text.items c.put_entry.new.text.items c.get-entry.ensures.entry
      c.loop-at.invariant.moved c.in-Ok.ensures c.send_long.new.text.items
      c.in-Ok-send_long.ensures.moved;
  spelled = spelled_more c.args.policy.now c.args.book.now.list c.loop-at.at
      c.get-entry.result.now c.get-entry.ensures.entry c.entry_is_spelled.ensures
      c.loop-at.invariant.spelled;
}
