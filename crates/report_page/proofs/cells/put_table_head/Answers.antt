use Rattle.std.proofs.Common.{[], ◌∷◌, codes}
use Rattle.report_text.proofs.ReportTextLemmas.{ok_then}
use Rattle.report_page.proofs.PieceLemmas.{◌&◌, all_written}
use Rattle.report_page.proofs.cells.put_table_head.Goals as goal

pub returns : goal.returns
returns c =
    ok_then c.put-5.result _ _ (λ last. all_written c.args.text.now.items
    (codes "<h2>")
    c.put.new.text.items
    ((c.args.title.now, c.put-2.new.text.items)
    ∷ (codes "</h2>\n<div class=wide><table>\n<tr>", c.put-3.new.text.items)
    ∷ (c.args.columns.now, c.put-4.new.text.items)
    ∷ (codes "\n", c.put-5.new.text.items) ∷ [])
    c.in_ok-put.ensures.ok
    (c.in_ok-put-2.ensures.ok & c.in_ok-put-3.ensures.ok & c.in_ok-put-4.ensures.ok & last & tt))
    c.put-5.ensures.ok
