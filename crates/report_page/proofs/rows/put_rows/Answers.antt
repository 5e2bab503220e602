use Rattle.std.proofs.Common.{[], ◌∷◌, codes}
use Rattle.std.specs.List.{flat_map}
use Rattle.report_page.specs.Cells.{table_head}
use Rattle.report_page.specs.Tables.{held_row}
use Rattle.report_text.proofs.ReportTextLemmas.{ok_then}
use Rattle.report_page.proofs.PieceLemmas.{◌&◌, all_written}
use Rattle.report_page.proofs.rows.put_rows.Goals as goal

pub returns : goal.returns
returns c =
    ok_then c.put_table_end.result _ _ (λ last. all_written c.args.text.now.items
    (table_head (codes "Who holds what, and by which entry")
    (codes "<th>Entry<th>Process<th>Dataset<th>How it came"))
    c.put_table_head.new.text.items
    ((
      flat_map (held_row c.args.policy.now c.args.book.now.list) c.args.rows.now,
      c.put_each_row.new.text.items,
    )
    ∷ (codes "</table></div>\n", c.put_table_end.new.text.items) ∷ [])
    c.in_ok-put_table_head.ensures
    (c.in_ok-put_each_row.ensures & last & tt))
    c.put_table_end.ensures
