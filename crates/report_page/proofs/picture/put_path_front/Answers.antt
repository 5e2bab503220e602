use Rattle.std.proofs.Common.{[], ◌∷◌, codes}
use Rattle.report_text.proofs.ReportTextLemmas.{ok_then}
use Rattle.report_page.proofs.PieceLemmas.{◌&◌, all_written}
use Rattle.report_page.proofs.picture.put_path_front.Goals as goal

pub returns : goal.returns
returns c =
    ok_then c.put-3.result _ _ (λ last. all_written c.args.text.now.items
    (codes "<path stroke=")
    c.put.new.text.items
    ((c.args.colour.now, c.put-2.new.text.items)
    ∷ (codes " d=\"", c.put-3.new.text.items) ∷ [])
    c.in_ok-put.ensures.ok
    (c.in_ok-put-2.ensures.ok & last & tt))
    c.put-3.ensures.ok
