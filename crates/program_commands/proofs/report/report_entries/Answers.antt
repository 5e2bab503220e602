use Rattle.std.proofs.Common.{inl}
use Rattle.program_commands.proofs.report.report_entries.Goals as goal

pub returns-in-Ok : goal.returns-in-Ok
returns-in-Ok g c = inl (record {
  sound = c.in-Ok.ensures.sound;
  keeps = c.in-Ok.ensures.keeps;
  text = c.in-Ok.text.items;
  report = c.in-Ok.ensures.report;
  written = rw c.deref.ensures.value at c.write_text-ending.ensures;
})
