use Rattle.std.proofs.Common.{[], ◌∷◌, codes}
use Rattle.std.specs.List.{flat_map}
use Rattle.report_page.specs.Cells.{table_head}
use Rattle.report_page.specs.Tables.{denial_row}
use Rattle.report_text.proofs.ReportTextLemmas.{ok_then}
use Rattle.report_page.proofs.PieceLemmas.{◌&◌, all_written}
use Rattle.report_page.proofs.denials.put_denials.Goals as goal

pub returns : goal.returns
returns c =
    ok_then c.put_table_end.result _ _ (λ last. all_written c.args.text.now.items
    (table_head (codes "Why instances were denied")
    (codes "<th>Entry<th>Instance<th>Why"))
    c.put_table_head.new.text.items
    ((flat_map (denial_row c.args.policy.now) c.args.denials.now, c.put_each_denial.new.text.items)
    ∷ (codes "</table></div>\n", c.put_table_end.new.text.items) ∷ [])
    c.in_ok-put_table_head.ensures
    (c.in_ok-put_each_denial.ensures & last & tt))
    c.put_table_end.ensures
