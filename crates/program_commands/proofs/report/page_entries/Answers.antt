use Rattle.std.proofs.Common.{inl, refl, Some}
use Rattle.hall_script.specs.Devices.{used}
use Rattle.program_commands.proofs.ReportLemmas.{told_fault}
use Rattle.program_commands.proofs.report.page_entries.Goals as goal

pub returns-in-Err-report_page : goal.returns-in-Err-report_page
returns-in-Err-report_page g c =
    told_fault c.args.reading.now.wall c.args.reading.now.entries.list c.in-Err-report_page.fault
    (used g.O.Sink.failures g.O.Sink.contents c.args.out.now
    c.tell_fault-in-Err-report_page.new.out)
    (Some (used g.W.Sink.failures g.W.Sink.contents c.args.file.now c.args.file.now))
    c.tell_fault-in-Err-report_page.result c.in-Err-report_page.ensures.fault
    c.tell_fault-in-Err-report_page.ensures refl

pub returns : goal.returns
returns g c = inl (record {
  sound = c.in-Ok.ensures.sound;
  keeps = c.in-Ok.ensures.keeps;
  text = c.in-Ok.text.items;
  report = c.in-Ok.ensures.report;
  written = (
    c.in-Ok-report_page.page.items,
    c.in-Ok-report_page.ensures.page,
    rw (c.deref.ensures.value, c.deref-2.ensures.value) at c.write_both-ending.ensures,
  );
})
