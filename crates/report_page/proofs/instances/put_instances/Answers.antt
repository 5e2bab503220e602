use Rattle.std.proofs.Common.{[], ◌∷◌, codes}
use Rattle.report_text.specs.Words.{numbered}
use Rattle.report_page.specs.Cells.{table_head}
use Rattle.report_page.specs.Tables.{entry_row}
use Rattle.report_text.proofs.ReportTextLemmas.{ok_then}
use Rattle.report_page.proofs.PieceLemmas.{◌&◌, all_written}
use Rattle.report_page.proofs.instances.put_instances.Goals as goal

pub returns : goal.returns
returns c =
    ok_then c.put_table_end.result _ _ (λ last. all_written c.args.text.now.items
    (table_head (codes "How each instance came out")
    (codes "<th>Instance<th>Kind<th>Filled by entry<th>Outcome"))
    c.put_table_head.new.text.items
    ((
      numbered (entry_row c.args.policy.now c.args.book.now.list) 0 c.args.book.now.list,
      c.put_entries.new.text.items,
    )
    ∷ (codes "</table></div>\n", c.put_table_end.new.text.items) ∷ [])
    c.in_ok-put_table_head.ensures
    (c.in_ok-put_entries.ensures & last & tt))
    c.put_table_end.ensures
