use Rattle.std.proofs.Common.{◌∙◌}
use Rattle.joint_sum.proofs.ReportLemmas.{report_of_run}
use Rattle.joint_sum.proofs.close.Goals as goal

pub returns : goal.returns
returns c =
    let hall = c.in-Ok.ensures.machine in
    report_of_run c.args.door.policy c.in-Ok.hall.policy c.policy.result.now
    c.args.ended.passes.items c.args.ended.told.items c.deref.result.now c.book.result.now.list
    hall.run c.report.result
    hall.stood.0 (c.policy.ensures ∙ hall.stood.0) c.deref.ensures.value hall.legal hall.each
    (c.book.ensures.runs hall.run hall.stood.1) c.report.ensures.sound c.report.ensures.text
