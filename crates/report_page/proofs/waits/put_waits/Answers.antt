use Rattle.std.proofs.Common.{◌≡◌, ℕ, List, [], ◌∷◌, ◌++◌, codes, sym, ap, ◌∙◌, subst}
use Rattle.std.specs.Prelude.{OnOk}
use Rattle.std.specs.List.{flat_map}
use Rattle.std.proofs.lemmas.List.{append-nil}
use Rattle.report_page.specs.Cells.{table_head}
use Rattle.report_page.specs.Tables.{wait_row}
use Rattle.report_text.proofs.ReportTextLemmas.{ok_then}
use Rattle.report_page.proofs.PieceLemmas.{◌&◌, all_written}
use Rattle.report_page.proofs.TableLemmas.{no_table, whole_table}
use Rattle.report_page.proofs.waits.put_waits.Goals as goal

pub returns-then-is_empty : goal.returns-then-is_empty
returns-then-is_empty c =
    let old = c.args.text.now.items in
    sym (append-nil old)
    ∙ ap (λ (t : List ℕ). old ++ t)
    (sym (no_table c.args.policy.now c.args.book.now.list c.args.waits.now
    (sym c.is_empty.ensures ∙ c.if-is_empty.true)))

pub returns : goal.returns
returns c =
    let old = c.args.text.now.items in
    subst (λ (t : List ℕ).
    OnOk c.put_table_end.result (c.put_table_end.new.text.items ≡ old ++ t))
    (sym (whole_table c.args.policy.now c.args.book.now.list c.args.waits.now
    (sym c.is_empty.ensures ∙ c.if-is_empty.false)))
    (ok_then c.put_table_end.result _ _ (λ last. all_written old
    (table_head (codes "Which instances wait, and for whom")
    (codes "<th>Instance<th>Kind<th>Process<th>Posted by entry"))
    c.put_table_head.new.text.items
    ((
      flat_map (wait_row c.args.policy.now c.args.book.now.list) c.args.waits.now,
      c.put_each_wait.new.text.items,
    )
    ∷ (codes "</table></div>\n", c.put_table_end.new.text.items) ∷ [])
    c.in_ok-put_table_head.ensures
    (c.in_ok-put_each_wait.ensures & last & tt))
    c.put_table_end.ensures)
