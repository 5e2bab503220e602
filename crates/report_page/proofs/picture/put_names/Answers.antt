use Rattle.std.proofs.Common.{[], ◌∷◌, codes}
use Rattle.report_text.specs.Words.{numbered}
use Rattle.report_page.specs.Picture.{name_line}
use Rattle.report_text.proofs.ReportTextLemmas.{ok_then}
use Rattle.report_page.proofs.PieceLemmas.{◌&◌, all_written}
use Rattle.report_page.proofs.picture.put_names.Goals as goal

pub returns : goal.returns
returns c =
    ok_then c.put-2.result _ _ (λ last. all_written c.args.text.now.items
    (codes "<div class=names>")
    c.put.new.text.items
    ((numbered name_line 0 c.args.policy.now.process_names, c.put_each_name.new.text.items)
    ∷ (codes "</div>\n", c.put-2.new.text.items) ∷ [])
    c.in_ok-put.ensures.ok
    (c.in_ok-put_each_name.ensures & last & tt))
    c.put-2.ensures.ok
