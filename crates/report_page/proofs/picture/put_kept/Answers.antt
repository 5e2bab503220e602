use Rattle.std.proofs.Common.{[], ◌∷◌, codes}
use Rattle.std.specs.List.{flat_map}
use Rattle.report_page.specs.Picture.{kept_line, path_front}
use Rattle.report_text.proofs.ReportTextLemmas.{ok_then}
use Rattle.report_page.proofs.PieceLemmas.{◌&◌, all_written}
use Rattle.report_page.proofs.picture.put_kept.Goals as goal

pub returns : goal.returns
returns c =
    ok_then c.put.result _ _ (λ last. all_written c.args.text.now.items
    (path_front (codes "#c00"))
    c.put_path_front.new.text.items
    ((flat_map kept_line c.args.denials.now, c.put_kept_lines.new.text.items)
    ∷ (codes "\"/>\n", c.put.new.text.items) ∷ [])
    c.in_ok-put_path_front.ensures
    (c.in_ok-put_kept_lines.ensures & last & tt))
    c.put.ensures.ok
