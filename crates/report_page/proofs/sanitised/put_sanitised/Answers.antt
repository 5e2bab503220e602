use Rattle.std.proofs.Common.{[], ◌∷◌, codes}
use Rattle.std.specs.List.{flat_map}
use Rattle.report_page.specs.Cells.{table_head}
use Rattle.report_page.specs.Tables.{sanitised_row}
use Rattle.report_text.proofs.ReportTextLemmas.{ok_then}
use Rattle.report_page.proofs.PieceLemmas.{◌&◌, all_written}
use Rattle.report_page.proofs.sanitised.put_sanitised.Goals as goal

pub returns : goal.returns
returns c =
    ok_then c.put_table_end.result _ _ (λ last. all_written c.args.text.now.items
    (table_head (codes "Whose results were sanitised")
    (codes "<th>Instance<th>Kind<th>Filled by entry<th>Process"))
    c.put_table_head.new.text.items
    ((
      flat_map (sanitised_row c.args.policy.now c.args.book.now.list) c.args.those.now,
      c.put_each_member.new.text.items,
    )
    ∷ (codes "</table></div>\n", c.put_table_end.new.text.items) ∷ [])
    c.in_ok-put_table_head.ensures
    (c.in_ok-put_each_member.ensures & last & tt))
    c.put_table_end.ensures
