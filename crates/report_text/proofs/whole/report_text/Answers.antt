use Rattle.report_text.proofs.whole.report_text.Goals as goal

pub returns-in-Ok-text-clause-report : goal.returns-in-Ok-text-clause-report
returns-in-Ok-text-clause-report c = record {
  rows = c.in-Ok.found.rows.items;
  sanitised = c.in-Ok.found.sanitised.items;
  waits = c.in-Ok.found.waits.items;
  bars = c.in-Ok.found.bars.items;
  denials = c.in-Ok.found.denials.items;
  are_rows = c.in-Ok.ensures.rows;
  are_sanitised = c.in-Ok.ensures.sanitised;
  are_waits = c.in-Ok.ensures.waits;
  are_bars = c.in-Ok.ensures.bars;
  are_denials = c.in-Ok.ensures.denials;
  lines = c.in-Ok-text.ensures;
}
