use Rattle.std.proofs.Common.{arith}
use Rattle.report_text.proofs.ReportTextLemmas.{one_at, writes_more}
use Rattle.report_page.specs.Picture.{name_line}
use Rattle.report_page.proofs.picture.put_each_name.Goals as goal

pub loop-process-preserved : goal.loop-process-preserved
loop-process-preserved c =
    let names = c.args.policy.now.process_names in
    let many = c.processes-process-end.ensures.number in
    let low = c.loop-process-test.true in
    let here = one_at names c.loop-process.process (omega arith) in
    writes_more name_line names c.loop-process.process here.0 c.loop-process.text.items
    c.put_name.new.text.items _ here.1 (c.in_ok-put_name.ensures here.0 here.1)
    c.loop-process.invariant
