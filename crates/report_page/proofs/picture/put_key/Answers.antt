use Rattle.std.proofs.Common.{[], ◌∷◌, codes}
use Rattle.std.specs.Fmt.{decimal}
use Rattle.report_text.proofs.ReportTextLemmas.{ok_then}
use Rattle.report_page.proofs.PieceLemmas.{◌&◌, all_written}
use Rattle.report_page.proofs.picture.put_key.Goals as goal

pub returns : goal.returns
returns c =
    ok_then c.put-5.result _ _ (λ last. all_written c.args.text.now.items
    (codes "</svg>\n<div class=ends><span>entry 0</span><span>entry ")
    c.put.new.text.items
    ((decimal c.args.entries, c.put_decimal.new.text.items)
    ∷ (codes "</span></div>\n</div>\n<figcaption>", c.put-2.new.text.items)
    ∷ (codes "<b class=came>Blue</b>: by this entry a dataset came in.\n", c.put-3.new.text.items)
    ∷ (
      codes "<b class=kept>Red</b>, and longer: this entry tells a denial, which names this process.",
      c.put-4.new.text.items,
    )
    ∷ (codes "</figcaption>\n</figure>\n", c.put-5.new.text.items) ∷ [])
    c.in_ok-put.ensures.ok
    (c.in_ok-put_decimal.ensures.ok & c.in_ok-put-2.ensures.ok & c.in_ok-put-3.ensures.ok
    & c.in_ok-put-4.ensures.ok & last & tt))
    c.put-5.ensures.ok
