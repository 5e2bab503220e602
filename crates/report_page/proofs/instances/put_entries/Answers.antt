use Rattle.std.proofs.Common.{arith}
use Rattle.report_page.specs.Tables.{entry_row}
use Rattle.report_text.proofs.ReportTextLemmas.{one_at, writes_more}
use Rattle.report_page.proofs.instances.put_entries.Goals as goal

pub loop-at-preserved : goal.loop-at-preserved
loop-at-preserved c =
    let entries = c.args.book.now.list in
    let many = c.len-at-end.ensures.value in
    let low = c.loop-at-test.true in
    let here = one_at entries c.loop-at.at (omega arith) in
    writes_more (entry_row c.args.policy.now entries) entries c.loop-at.at here.0
    c.loop-at.text.items c.put_entry.new.text.items _ here.1
    (c.in_ok-put_entry.ensures here.0 here.1) c.loop-at.invariant
