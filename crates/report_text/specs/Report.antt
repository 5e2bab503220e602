-- The text of a report. (Own format.)
use Rattle.std.specs.Prelude.{◌≡◌, ℕ, List, ◌++◌, length}
use Rattle.wall_policy.specs.Policy.{ChineseWall}
use Rattle.run_model.specs.declared.entry.Entry.{Entry}
use Rattle.run_model.specs.Posts.{comms}
use Rattle.book_report.specs.declared.row.Row.{Row}
use Rattle.book_report.specs.declared.bar.Bar.{Bar}
use Rattle.book_report.specs.declared.denial.Denial.{Denial}
use Rattle.book_report.specs.declared.sanitised.Sanitised.{Sanitised}
use Rattle.book_report.specs.declared.wait.Wait.{Wait}
use Rattle.book_report.specs.Held.{posts_to}
use Rattle.book_report.specs.Report.{AreRows, AreSanitised, AreWaits, AreBars, AreDenials}
use Rattle.report_text.specs.Rows.{rows_text}
use Rattle.report_text.specs.Members.{comms_text}
use Rattle.report_text.specs.Instances.{instances_text}
use Rattle.report_text.specs.Sanitised.{sanitised_text}
use Rattle.report_text.specs.Waits.{waits_text}
use Rattle.report_text.specs.Reasons.{bars_text, denials_text}

-- who holds what; the communicators that the book's posts make; the outcomes that it tells; whose
-- results were sanitised; which instances wait, and for whom; and why posts were barred and
-- instances denied
pub record IsReport (wall : ChineseWall) (entries : List Entry) (text : List ℕ) : Type 0 where
  pub rows : List Row
  pub sanitised : List Sanitised
  pub waits : List Wait
  pub bars : List Bar
  pub denials : List Denial
  pub are_rows : AreRows wall entries rows
  pub are_sanitised : AreSanitised wall entries sanitised
  pub are_waits : AreWaits wall entries waits
  pub are_bars : AreBars wall entries bars
  pub are_denials : AreDenials wall entries denials
  pub lines : text ≡ rows_text wall entries rows
      ++ comms_text wall (comms wall (posts_to entries (length entries)))
      ++ instances_text wall entries ++ sanitised_text wall entries sanitised
      ++ waits_text wall entries waits ++ bars_text wall bars
      ++ denials_text wall denials
