use Rattle.std.proofs.Common.{◌≡◌, ◌++◌, drop}
use Rattle.report_text.specs.Words.{numbered}
use Rattle.report_page.specs.Picture.{track_line}
use Rattle.report_page.proofs.picture.put_each_track.Given as goal

-- the text so far, and the tracks that are left
abbrev pub invariant-loop-process : goal.invariant-loop-process
invariant-loop-process l =
    l.text.items ++ numbered (track_line l.width) l.process (drop l.process l.policy.process_names)
    ≡ l.fn.text.items ++ numbered (track_line l.width) 0 l.policy.process_names
