use Rattle.std.proofs.Common.{[], ◌∷◌, ◌++◌, List, length, ap, ◌∙◌}
use Rattle.run_model.specs.Comms.{Comm}
use Rattle.run_model.specs.Posts.{comms}
use Rattle.book_report.specs.declared.row.Row.{Row}
use Rattle.book_report.specs.declared.sanitised.Sanitised.{Sanitised}
use Rattle.book_report.specs.declared.wait.Wait.{Wait}
use Rattle.book_report.specs.declared.bar.Bar.{Bar}
use Rattle.book_report.specs.declared.denial.Denial.{Denial}
use Rattle.book_report.specs.Held.{posts_to}
use Rattle.report_page.specs.Tables.{rows_table, comms_table, instances_table}
use Rattle.report_page.specs.Tables.{sanitised_table, waits_table, bars_table, denials_table}
use Rattle.report_text.proofs.ReportTextLemmas.{comms_are}
use Rattle.report_page.proofs.PieceLemmas.{◌&◌, all_written}
use Rattle.report_page.proofs.whole.put_tables.Goals as goal

pub returns : goal.returns
returns c =
    let wall = c.args.policy.now in
    let entries = c.args.book.now.list in
    let found = c.args.found.now in
    let there = c.in_ok-put_comms_of.ensures
    ∙ ap (λ (cs : List Comm). c.put_rows.new.text.items ++ comms_table wall cs)
    (comms_are wall found.at_end (posts_to entries (length entries)) c.requires.at_end) in
    let rows = c.in_ok-put_rows.ensures
    ∙ ap (λ (rs : List Row). c.args.text.now.items ++ rows_table wall entries rs)
    c.deref.ensures.value in
    let sanitised = c.in_ok-put_sanitised.ensures
    ∙ ap (λ (ss : List Sanitised).
    c.put_instances.new.text.items ++ sanitised_table wall entries ss) c.deref-2.ensures.value in
    let waits = c.in_ok-put_waits.ensures
    ∙ ap (λ (ws : List Wait).
    c.put_sanitised.new.text.items ++ waits_table wall entries ws) c.deref-3.ensures.value in
    let bars = c.in_ok-put_bars.ensures
    ∙ ap (λ (bs : List Bar). c.put_waits.new.text.items ++ bars_table wall bs)
    c.deref-4.ensures.value in
    let denials = c.in_ok-put_denials.ensures
    ∙ ap (λ (ds : List Denial). c.put_bars.new.text.items ++ denials_table wall ds)
    c.deref-5.ensures.value in
    all_written c.args.text.now.items
    (rows_table wall entries found.rows.items)
    c.put_rows.new.text.items
    ((
      comms_table wall (comms wall (posts_to entries (length entries))),
      c.put_comms_of.new.text.items,
    )
    ∷ (instances_table wall entries, c.put_instances.new.text.items)
    ∷ (sanitised_table wall entries found.sanitised.items, c.put_sanitised.new.text.items)
    ∷ (waits_table wall entries found.waits.items, c.put_waits.new.text.items)
    ∷ (bars_table wall found.bars.items, c.put_bars.new.text.items)
    ∷ (denials_table wall found.denials.items, c.put_denials.new.text.items) ∷ [])
    rows
    (there & c.in_ok-put_instances.ensures & sanitised & waits & bars
    & denials & tt)
