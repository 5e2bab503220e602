use Rattle.std.proofs.Common.{[], ◌∷◌, codes}
use Rattle.report_text.specs.Words.{numbered}
use Rattle.report_page.specs.Picture.{track_line, path_front}
use Rattle.report_text.proofs.ReportTextLemmas.{ok_then}
use Rattle.report_page.proofs.PieceLemmas.{◌&◌, all_written}
use Rattle.report_page.proofs.picture.put_tracks.Goals as goal

pub returns : goal.returns
returns c =
    ok_then c.put.result _ _ (λ last. all_written c.args.text.now.items
    (path_front (codes "#bbb stroke-width=1"))
    c.put_path_front.new.text.items
    ((
      numbered (track_line c.args.width) 0 c.args.policy.now.process_names,
      c.put_each_track.new.text.items,
    )
    ∷ (codes "\"/>\n", c.put.new.text.items) ∷ [])
    c.in_ok-put_path_front.ensures
    (c.in_ok-put_each_track.ensures & last & tt))
    c.put.ensures.ok
