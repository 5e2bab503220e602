use Rattle.std.proofs.Common.{ℕ, List, [], ◌∷◌, ◌+◌, ◌++◌, length, ap, ◌∙◌, codes}
use Rattle.book_report.specs.declared.row.Row.{Row}
use Rattle.book_report.specs.declared.denial.Denial.{Denial}
use Rattle.report_page.specs.Picture.{names_text, frame_text, tracks_text, kept_text, came_text}
use Rattle.report_page.specs.Picture.{key_text}
use Rattle.report_text.proofs.ReportTextLemmas.{ok_then}
use Rattle.report_page.proofs.PieceLemmas.{◌&◌, all_written}
use Rattle.report_page.proofs.picture.put_picture.Goals as goal

pub returns : goal.returns
returns c =
    let names = c.args.policy.now.process_names in
    let entries = c.args.entries in
    let framed = c.in_ok-put_frame.ensures
    ∙ ap (λ (n : ℕ). c.put_names.new.text.items ++ frame_text (entries + 1) n)
    (c.from.ensures ∙ c.processes.ensures.number) in
    let kept = c.in_ok-put_kept.ensures
    ∙ ap (λ (ds : List Denial). c.put_tracks.new.text.items ++ kept_text ds)
    c.deref.ensures.value in
    let came = c.in_ok-put_came.ensures
    ∙ ap (λ (rs : List Row). c.put_kept.new.text.items ++ came_text rs) c.deref-2.ensures.value in
    ok_then c.put_key.result _ _ (λ last. all_written c.args.text.now.items
    (codes "<h2>When datasets came in, and when denials kept them out</h2>\n")
    c.put.new.text.items
    ((codes "<figure>\n<div class=map>\n", c.put-2.new.text.items)
    ∷ (names_text names, c.put_names.new.text.items)
    ∷ (frame_text (entries + 1) (length names), c.put_frame.new.text.items)
    ∷ (tracks_text (entries + 1) names, c.put_tracks.new.text.items)
    ∷ (kept_text c.args.found.now.denials.items, c.put_kept.new.text.items)
    ∷ (came_text c.args.found.now.rows.items, c.put_came.new.text.items)
    ∷ (key_text entries, c.put_key.new.text.items) ∷ [])
    c.in_ok-put.ensures.ok
    (c.in_ok-put-2.ensures.ok & c.in_ok-put_names.ensures & framed & c.in_ok-put_tracks.ensures
    & kept & came & last & tt))
    c.put_key.ensures
