use Rattle.live_book.proofs.WritingLemmas.{lines_more}
use Rattle.live_book.proofs.lines.put_entries.Goals as goal

pub loop-at-preserved : goal.loop-at-preserved
loop-at-preserved c = lines_more c.args.policy.now c.args.news.now.list c.args.text.now.items
    c.loop-at.at c.get.result.now c.loop-at.text.items c.put_entry.new.text.items
    c.get.ensures.entry c.loop-at.invariant c.in_ok-put_entry.ensures
