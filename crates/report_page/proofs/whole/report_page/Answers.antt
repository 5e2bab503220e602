use Rattle.report_page.proofs.whole.report_page.Goals as goal

pub returns-in-Ok-page-clause-page : goal.returns-in-Ok-page-clause-page
returns-in-Ok-page-clause-page c = record {
  rows = c.in-Ok.found.rows.items;
  sanitised = c.in-Ok.found.sanitised.items;
  waits = c.in-Ok.found.waits.items;
  bars = c.in-Ok.found.bars.items;
  denials = c.in-Ok.found.denials.items;
  are_rows = c.in-Ok.ensures.rows;
  are_sanitised = c.in-Ok.ensures.sanitised;
  are_waits = c.in-Ok.ensures.waits;
  are_bars = c.in-Ok.ensures.bars;
  are_denials = c.in-Ok.ensures.denials;
  parts = c.in-Ok-page.ensures;
}
