use Rattle.std.proofs.Common.{[], ◌∷◌, codes}
use Rattle.std.specs.Fmt.{decimal}
use Rattle.report_text.proofs.ReportTextLemmas.{ok_then}
use Rattle.report_page.proofs.PieceLemmas.{◌&◌, all_written}
use Rattle.report_page.proofs.picture.put_frame.Goals as goal

pub returns : goal.returns
returns c =
    ok_then c.put-5.result _ _ (λ last. all_written c.args.text.now.items
    (codes "<svg role=img aria-label=\"A track for each process, entries from left to right. ")
    c.put.new.text.items
    ((
      codes "The tables tell in words what it shows.\" preserveAspectRatio=none viewBox=\"0 0 ",
      c.put-2.new.text.items,
    )
    ∷ (decimal c.args.width, c.put_decimal.new.text.items)
    ∷ (codes " ", c.put-3.new.text.items)
    ∷ (decimal c.args.processes, c.put_decimal-2.new.text.items)
    ∷ (codes "\" height=", c.put-4.new.text.items)
    ∷ (decimal c.args.processes, c.put_decimal-3.new.text.items)
    ∷ (codes "em>\n", c.put-5.new.text.items) ∷ [])
    c.in_ok-put.ensures.ok
    (c.in_ok-put-2.ensures.ok & c.in_ok-put_decimal.ensures.ok & c.in_ok-put-3.ensures.ok
    & c.in_ok-put_decimal-2.ensures.ok & c.in_ok-put-4.ensures.ok
    & c.in_ok-put_decimal-3.ensures.ok & last & tt))
    c.put-5.ensures.ok
